use Rattle.example_typed.proofs.types.+put_forms.Given as goal

abbrev pub decreases-put_forms : goal.decreases-put_forms
decreases-put_forms l = l.depth

-- One character on from a place.
pub use Rattle.text_chars.proofs.Steps.{IsStep, step, ascii_step, rest_end, first_place}

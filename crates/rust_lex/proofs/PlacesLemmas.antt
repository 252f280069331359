-- One character on from a place, and the front of a text.
pub use Rattle.text_chars.proofs.Steps.{IsStep, step, ascii_step, rest_end, first_place}

-- The words in which it is said what a node is as a tree of the grammar: those of node_words.
pub use Rattle.node_words.specs.Words.{◌▸◌, ◌∶◌, alternative, last, judged, absent, optional, given}
pub use Rattle.node_words.specs.Words.{mark, keyword, underscore, enclosed, mark_or, filled, name}
pub use Rattle.node_words.specs.Words.{lifetime, name_or, raw, listed, list, sum, all_listed, turns}
pub use Rattle.node_words.specs.Words.{expression, is_empty}

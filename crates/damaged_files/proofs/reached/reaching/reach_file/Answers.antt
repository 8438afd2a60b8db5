-- The chain from the block that the entry names was walked, or the entry names none though it is to name one.
use Rattle.std.proofs.Common.{inl, inr, refl, sym, ◌∙◌}
use Rattle.std.proofs.lemmas.Bool.{false≢true}
use Rattle.disk_layout.proofs.lemmas.chains.Names.{named-match}
use Rattle.damaged_files.proofs.reached.reaching.reach_file.Goals as goal

pub returns-in-None : goal.returns-in-None
returns-in-None c = inr (inl (
  λ none. false≢true (sym c.if-names_no_block.false ∙ c.names_no_block.ensures.1 none),
  named-match c.args.slot.now.bytes _ 3 _ c.new.ensures c.in-None.ensures,
  c.clear.ensures,
  refl,
  refl,
))

pub returns-in-Some : goal.returns-in-Some
returns-in-Some c = inr (inr (
  c.in-Some.first,
  named-match c.args.slot.now.bytes _ 3 _ c.new.ensures c.in-Some.ensures,
  c.reach_blocks.ensures,
))

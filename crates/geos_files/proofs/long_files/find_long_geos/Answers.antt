-- The image has no more tracks, or the entry isn't one of GEOS; or the image has what the entry names, or hasn't.
use Rattle.std.proofs.Common.{◌∙◌, Bool, List, ap, sym, ℕ}
use Rattle.std.specs.List.{list_any}
use Rattle.geos_files.specs.Long.{if_taken, is_past}
use Rattle.geos_files.proofs.Long.{named-past, no-tracks, not-like, not-named}
use Rattle.geos_files.proofs.long_files.find_long_geos.Goals as goal
use Rattle.geos_files.proofs.long_files.find_long_geos.Goals.{then-not-has_more_tracks-via-then-not-has_more_tracks, then-not-has_more_tracks-via-else-not-has_more_tracks+then-not-is_like_geos}

pub returns-then-not-has_more_tracks-clause-value : goal.returns-then-not-has_more_tracks-clause-value
returns-then-not-has_more_tracks-clause-value c = elim c.then-not-has_more_tracks.branch [
  | then-not-has_more_tracks-via-then-not-has_more_tracks w ↦
      no-tracks c.args.image.now c.args.slot.now (sym c.has_more_tracks.ensures ∙ w.if-not-has_more_tracks.true)
  | then-not-has_more_tracks-via-else-not-has_more_tracks+then-not-is_like_geos w ↦
      not-like c.args.image.now c.args.slot.now (sym c.has_more_tracks.ensures ∙ w.if-not-has_more_tracks.false)
      (sym w.is_like_geos.ensures ∙ w.if-not-is_like_geos.true)
]

pub returns-then-add_parts-clause-value : goal.returns-then-add_parts-clause-value
returns-then-add_parts-clause-value c =
    named-past c.args.image.now c.args.slot.now c.has_past.result c.add_parts.new.sectors.items c.add_parts.new.pairs.items
    (sym c.has_more_tracks.ensures ∙ c.if-not-has_more_tracks.false) (sym c.is_like_geos.ensures ∙ c.if-not-is_like_geos.false)
    (ap (λ (b : Bool). if_taken b (c.add_parts.new.sectors.items, c.add_parts.new.pairs.items)) (sym c.if-add_parts.true)
    ∙ c.add_parts.ensures.value)
    (c.has_past.ensures ∙ ap (λ (ns : List ℕ). list_any is_past ns) c.as_slice.ensures.value)

pub returns-else-add_parts-clause-value : goal.returns-else-add_parts-clause-value
returns-else-add_parts-clause-value c =
    ap (λ (b : Bool). if_taken b (c.add_parts.new.sectors.items, c.add_parts.new.pairs.items)) c.if-add_parts.false
    ∙ not-named c.args.image.now c.args.slot.now
    (sym c.has_more_tracks.ensures ∙ c.if-not-has_more_tracks.false) (sym c.is_like_geos.ensures ∙ c.if-not-is_like_geos.false)
    (ap (λ (b : Bool). if_taken b (c.add_parts.new.sectors.items, c.add_parts.new.pairs.items)) (sym c.if-add_parts.false)
    ∙ c.add_parts.ensures.value)

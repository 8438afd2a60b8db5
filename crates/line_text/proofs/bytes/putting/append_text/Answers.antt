-- Each byte's text comes behind those before it.
use Rattle.std.proofs.Common.{refl, ◌∙◌, arith, length-drop}
use Rattle.std.proofs.lemmas.List.{take_rest}
use Rattle.line_text.proofs.lemmas.bytes.Displays.{none-left, put-more}
use Rattle.line_text.proofs.bytes.putting.append_text.Goals as goal

pub slice_bounds-behind-count : goal.slice_bounds-behind-count
slice_bounds-behind-count c = omega arith

pub bounds-rest-0 : goal.bounds-rest-0
bounds-rest-0 c = omega arith

pub slice_bounds-behind-start : goal.slice_bounds-behind-start
slice_bounds-behind-start c = omega arith

pub slice_bounds-behind-end : goal.slice_bounds-behind-end
slice_bounds-behind-end c = omega arith

pub append_byte-end-requires : goal.append_byte-end-requires
append_byte-end-requires c = omega arith

pub loop-rest-smaller : goal.loop-rest-smaller
loop-rest-smaller c = omega arith

pub loop-rest-init : goal.loop-rest-init
loop-rest-init c = (refl, omega arith, omega arith, refl)

pub loop-rest-preserved : goal.loop-rest-preserved
loop-rest-preserved c =
    let rest = c.loop-rest.rest.now in
    let before = c.loop-rest.invariant in (
      c.append_byte-end.auto.room ∙ before.0,
      omega (arith, before.1, c.append_byte-end.ensures.end.0),
      rw (take_rest rest 1)
          (omega (arith, before.2, c.append_byte-end.ensures.end.1, c.in-len1-up.len_at_least, length-drop 1 rest)),
      rw (take_rest rest 1)
          (put-more _ _ rest _ c.in-len1-up.len_at_least c.append_byte-end.ensures.written before.3),
    )

pub returns-clause-end : goal.returns-clause-end
returns-clause-end c = (omega arith, omega arith)

pub returns-clause-written : goal.returns-clause-written
returns-clause-written c = none-left _ c.loop-rest.rest.now _ c.in_default.len_below c.loop-rest.invariant.3

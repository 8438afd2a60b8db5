-- Sector by sector of the track, all of them judged and counted, and then its count.
use Rattle.std.proofs.Common.{ap, arith, sym, ◌∙◌, List, ℕ}
use Rattle.disk_layout.specs.Map.{map_count}
use Rattle.layout_check.proofs.lemmas.mending.Ones.{
  bit-small,
  marked-ended,
  marked-next,
  ones-ended,
  ones-judged,
  ones-none,
  right-count,
  right-here,
  there-low,
  told-marked,
}
use Rattle.layout_check.proofs.maps.is_right_track.Goals as goal

pub loop-place-init : goal.loop-place-init
loop-place-init c = record {
  marked = λ right p on below. absurd (omega arith);
  so_far = sym (ones-none c.args.map.now c.args.track);
  few = omega arith;
  short = omega arith;
}

pub overflow_add-count : goal.overflow_add-count
overflow_add-count c =
    let old = c.loop-place.invariant in
    omega (arith, old.few, old.short, c.from-count.ensures, bit-small c.is_free-free.result)

pub loop-place-smaller : goal.loop-place-smaller
loop-place-smaller c = let low = there-low c.args.track c.loop-place.sector c.in-Some.place c.in-Some.ensures.value in
    omega (arith, low)

pub loop-place-preserved : goal.loop-place-preserved
loop-place-preserved c =
    let map = c.args.map.now in
    let owners = c.args.owners.now in
    let old = c.loop-place.invariant in
    let p = c.in-Some.place in
    let there = c.in-Some.ensures.value in
    let free = rw c.new-view.ensures at c.is_free-free.ensures in
    let more = ones-judged map c.args.track c.loop-place.sector p there c.is_free-free.result free in
    record {
      marked = λ right.
          let both = right-here c.loop-place.right c.is_free-free.result c.is_owned.result right in
          marked-next map owners c.args.track c.loop-place.sector p there (old.marked both.0)
          (told-marked map owners p c.is_free-free.result c.is_owned.result free c.is_owned.ensures both.1);
      so_far = omega (arith, old.so_far, c.from-count.ensures, more);
      few = omega (arith, old.few, c.from-count.ensures, bit-small c.is_free-free.result);
      short = omega (arith, there-low c.args.track c.loop-place.sector p there);
    }

pub returns : goal.returns
returns c told =
    let map = c.args.map.now in
    let both = right-count c.loop-place.right c.free_on.result c.loop-place.count told in
    let count = c.free_on.ensures ∙ ap (λ (bytes : List ℕ). map_count bytes c.args.track) c.new-view.ensures in
    let ones = c.loop-place.invariant.so_far
    ∙ ones-ended map c.args.track c.loop-place.sector c.in_default.ensures.value in
    record {
      marked = marked-ended map c.args.owners.now c.args.track c.loop-place.sector c.in_default.ensures.value
          (c.loop-place.invariant.marked both.0);
      count = sym count ∙ both.1 ∙ ones;
    }

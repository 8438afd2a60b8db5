-- Sector by sector of the track, and then its count.
use Rattle.std.proofs.Common.{ap, arith, sym, ◌∙◌, List, ℕ}
use Rattle.std.proofs.lemmas.Bool.Decides.{Decides-eqb}
use Rattle.disk_layout.specs.Map.{map_count}
use Rattle.layout_check.proofs.lemmas.mending.Ones.{bit-small, ones-ended, ones-judged, ones-none, there-low}
use Rattle.disk_reports.proofs.map_bits.is_counted.Goals as goal

pub loop-place-init : goal.loop-place-init
loop-place-init c = record {
  so_far = sym (ones-none c.args.map.now c.args.track);
  few = omega arith;
  short = omega arith;
}

pub overflow_add-count : goal.overflow_add-count
overflow_add-count c =
    let old = c.loop-place.invariant in
    omega (arith, old.few, old.short, c.from-count.ensures, bit-small c.is_free-free.result)

pub loop-place-smaller : goal.loop-place-smaller
loop-place-smaller c = let low = there-low c.args.track c.loop-place.sector c.in-Some.place c.in-Some.ensures.value in
    omega (arith, low)

pub loop-place-preserved : goal.loop-place-preserved
loop-place-preserved c =
    let map = c.args.map.now in
    let old = c.loop-place.invariant in
    let p = c.in-Some.place in
    let there = c.in-Some.ensures.value in
    let free = rw c.new-view.ensures at c.is_free-free.ensures in
    let more = ones-judged map c.args.track c.loop-place.sector p there c.is_free-free.result free in
    record {
      so_far = omega (arith, old.so_far, c.from-count.ensures, more);
      few = omega (arith, old.few, c.from-count.ensures, bit-small c.is_free-free.result);
      short = omega (arith, there-low c.args.track c.loop-place.sector p there);
    }

pub returns : goal.returns
returns c =
    let map = c.args.map.now in
    let count = c.free_on.ensures ∙ ap (λ (bytes : List ℕ). map_count bytes c.args.track) c.new-view.ensures in
    let ones = c.loop-place.invariant.so_far
    ∙ ones-ended map c.args.track c.loop-place.sector c.in_default.ensures.value in
    let same = Decides-eqb c.free_on.result c.loop-place.count in
    (λ t. sym count ∙ same.0 t ∙ ones, λ e. same.1 (count ∙ e ∙ sym ones))

-- Sector by sector of the track, judged and counted, and then its count.
use Rattle.std.proofs.Common.{ap, arith, inl, inr, refl, sym, ◌∙◌, ℕ, List}
use Rattle.disk_layout.specs.Map.{map_count}
use Rattle.layout_check.proofs.lemmas.mending.Ones.{
  bit-small,
  marked-all,
  marked-next,
  marked-past,
  ones-all,
  ones-judged,
  ones-none,
  ones-past,
  told-marked,
  told-unmarked,
}
use Rattle.layout_check.proofs.maps.check_track.Goals as goal
use Rattle.layout_check.proofs.maps.check_track.Goals.{in-Some+else-free-is_owned, in_default}

pub loop-sector-init : goal.loop-sector-init
loop-sector-init c = record {
  marked = λ p on below. absurd (omega arith);
  so_far = sym (ones-none c.args.map.now c.args.track);
  few = omega arith;
}

pub returns-then-free-is_owned-clause-err : goal.returns-then-free-is_owned-clause-err
returns-then-free-is_owned-clause-err c =
    let free = rw c.new-view.ensures at c.is_free-free.ensures in (
      c.in-Some.place,
      refl,
      inl (told-unmarked c.args.map.now c.args.owners.now c.in-Some.place c.is_free-free.result
          c.is_owned.result free c.is_owned.ensures c.if-free-is_owned.true),
    )

pub loop-sector-preserved : goal.loop-sector-preserved
loop-sector-preserved c =
    let map = c.args.map.now in
    let owners = c.args.owners.now in
    let old = c.loop-sector.invariant in
    elim c.match-new.branch [
      | in-Some+else-free-is_owned w ↦
          let p = w.in-Some.place in
          let there = w.in-Some.ensures.value in
          let free = rw c.new-view.ensures at w.is_free-free.ensures in
          let more = ones-judged map c.args.track c.loop-sector.sector p there w.is_free-free.result free in
          record {
            marked = marked-next map owners c.args.track c.loop-sector.sector p there old.marked
                (told-marked map owners p w.is_free-free.result w.is_owned.result free w.is_owned.ensures
                w.if-free-is_owned.false);
            so_far = omega (arith, w.count-is, old.so_far, w.from-count.ensures, more);
            few = omega (arith, w.count-is, old.few, w.from-count.ensures, bit-small w.is_free-free.result);
          }
      | in_default w ↦
          let same = ones-past map c.args.track c.loop-sector.sector w.in_default.ensures.value in
          record {
            marked = marked-past map owners c.args.track c.loop-sector.sector w.in_default.ensures.value old.marked;
            so_far = omega (arith, w.count-is, old.so_far, same);
            few = omega (arith, w.count-is, old.few);
          }
    ]

pub returns-then-free_on-count-clause-err : goal.returns-then-free_on-count-clause-err
returns-then-free_on-count-clause-err c =
    let map = c.args.map.now in
    let count = c.free_on.ensures ∙ ap (λ (bytes : List ℕ). map_count bytes c.args.track) c.new-view.ensures in
    let ones = c.loop-sector.invariant.so_far
    ∙ ones-all map c.args.track c.loop-sector.sector c.loop-sector-test.false in (
      c.map_place.result,
      refl,
      inr (
        c.map_place.ensures,
        (
          c.args.track,
          c.requires.first,
          c.requires.last,
          λ e. c.if-free_on-count.true (count
              ∙ e ∙ sym ones),
        ),
      ),
    )

pub returns-clause-ok : goal.returns-clause-ok
returns-clause-ok c =
    let map = c.args.map.now in
    let count = c.free_on.ensures ∙ ap (λ (bytes : List ℕ). map_count bytes c.args.track) c.new-view.ensures in
    let ones = c.loop-sector.invariant.so_far
    ∙ ones-all map c.args.track c.loop-sector.sector c.loop-sector-test.false in
    record {
      marked = marked-all map c.args.owners.now c.args.track c.loop-sector.sector c.loop-sector-test.false
          c.loop-sector.invariant.marked;
      count = sym count ∙ c.if-free_on-count.false ∙ ones;
    }

pub overflow_add-count : goal.overflow_add-count
overflow_add-count c = omega (
  arith,
  c.loop-sector.invariant.few,
  c.from-count.ensures,
  bit-small c.is_free-free.result,
)

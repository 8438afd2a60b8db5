-- A side sector more, which is wrong or isn't.
use Rattle.std.proofs.Common.{arith, sym, ◌∙◌, ℕ}
use Rattle.std.proofs.lemmas.Bool.{false≢true}
use Rattle.d64_image.specs.Memory.{disk_image}
use Rattle.d64_image.specs.declared.place.Place.{Place}
use Rattle.disk_layout.proofs.lemmas.lists.Lists.{read-there}
use Rattle.disk_reports.proofs.Found.{found-all, found-more, found-same}
use Rattle.disk_reports.specs.Trails.{IsIntact}
use Rattle.disk_reports.proofs.sides.find_wrong.Goals as goal
use Rattle.disk_reports.proofs.sides.find_wrong.Goals.{then-is_wrong, else-is_wrong}

pub loop-number-preserved : goal.loop-number-preserved
loop-number-preserved c =
    let old = c.loop-number.invariant in
    let n = c.loop-number.number in
    let q = c.index-sides-number.result in
    let sides = c.args.sides.now in
    let P : ℕ → Place → Type 0 = λ j p. ¬ (IsIntact (disk_image c.args.disk.now) c.args.slot.now c.args.blocks.now sides j p) in
    let there = read-there sides n q c.loop-number-test.true c.index-sides-number.is in
    elim c.if-is_wrong.branch [
      | then-is_wrong w ↦ record {
        few = rw w.wrong-is (omega (arith, w.push.ensures.len, old.few));
        those = rw w.wrong-is (found-more P sides c.loop-number.wrong.items w.push.new.self.items n q there
            (c.is_wrong.ensures.0 w.if-is_wrong.true) w.push.ensures.items old.those);
      }
      | else-is_wrong w ↦ record {
        few = rw w.wrong-is (omega (arith, old.few));
        those = rw w.wrong-is (found-same P sides c.loop-number.wrong.items n q there
            (λ h. false≢true (sym w.if-is_wrong.false ∙ c.is_wrong.ensures.1 h)) old.those);
      }
    ]

pub returns : goal.returns
returns c =
    found-all (λ j p. ¬ (IsIntact (disk_image c.args.disk.now) c.args.slot.now c.args.blocks.now c.args.sides.now j p))
    c.args.sides.now c.loop-number.wrong.items c.loop-number.number (omega (arith, c.loop-number-test.false))
    c.loop-number.invariant.those

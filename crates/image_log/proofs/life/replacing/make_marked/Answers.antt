-- The base and the commit in zeros, and the mark behind them.
use Rattle.std.proofs.Common.{◌∙◌, arith, refl, replicate, subst, sym, true}
use Rattle.std.proofs.lemmas.Bool.{false≢true}
use Rattle.image_log.specs.Marks.{Covers}
use Rattle.image_log.proofs.Ends.{all_touched}
use Rattle.image_log.proofs.lemmas.life.Replaced.{empty_log, first_log, is_marked_for, next_log}
use Rattle.image_log.proofs.lemmas.life.Times.{on_ok}
use Rattle.image_log.proofs.life.replacing.make_marked.Goals as goal

pub returns-clause-ok : goal.returns-clause-ok
returns-clause-ok g c = on_ok _ _ c.write_mark.result (λ put known.
    let there = c.in_ok-lengthen.ensures.ok known in
    let n = c.fill-n.result in
    let zeros = empty_log there.0 there.2 there.3 in
    let base = first_log c.fill-n.new.room 0 n c.args.now.now (replicate 683 true) c.as_flattened.result.now there.0
    (record {
      commit = c.fill-n.ensures.commit;
      few = c.fill-n.ensures.few;
      rooms = c.fill-n.ensures.room;
      wide = c.fill-n.ensures.wide;
      joined = c.as_flattened.ensures.value;
      long = c.as_flattened.ensures.len;
      makes = c.fill-n.ensures.brought;
    }) (omega arith) zeros c.requires.now (λ i low none. absurd (false≢true (sym none ∙ all_touched 683 i low))) refl in
    let is = next_log c.fill-m.new.room n c.fill-m.result c.args.shop.now c.changed.result c.as_flattened-2.result.now _
    (record {
      commit = c.fill-m.ensures.commit;
      few = c.fill-m.ensures.few;
      rooms = c.fill-m.ensures.room;
      wide = c.fill-m.ensures.wide;
      joined = c.as_flattened-2.ensures.value;
      long = c.as_flattened-2.ensures.len;
      makes = c.fill-m.ensures.brought;
    }) (omega (arith, c.fill-n.ensures.few)) base.log c.requires.shop
    (subst (λ i. Covers c.changed.result i c.args.shop.now) (sym base.image) c.changed.ensures) c.args.now.now base.based base.base in
    is_marked_for g.F.LogFile.history c.write_mark.new.file _ _ c.args.now.now c.args.shop.now is
    (put _ (c.in_ok-write_at-2.ensures.ok _ (c.in_ok-write_at.ensures.ok there.0 (c.sync.ensures.held ∙ there.1) (omega arith))
    (omega (arith, base.log.size, c.fill-n.ensures.few))) (omega (arith, is.log.size))))
    c.write_mark.ensures.ok

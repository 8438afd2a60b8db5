-- The slots of the directory are those of the files, in order.
use Rattle.std.proofs.Common.{◌∙◌, arith, inl, inr, refl}
use Rattle.std.proofs.lemmas.Option.{slice_get_within}
use Rattle.std.proofs.lemmas.Result.{IfOk-weaker, IfErr-weaker}
use Rattle.rel_records.proofs.lemmas.reading.Found.{none-found, opened, opened-of}
use Rattle.d64_image.proofs.Moments.{reads_then, reads_weaker}
use Rattle.rel_records.proofs.lemmas.Told.{device-not-found, fault-is, none-done, passed-on, tells-rel-after}
use Rattle.rel_records.proofs.reading.finding.find.Goals as goal

pub returns-in_default : goal.returns-in_default
returns-in_default g c =
    record {
      ok = λ l h. tt;
      not_found = λ l is same k f at. none-found l c.as_slice-slots.result.now c.args.name.now
          (c.as_slice-slots.ensures.value ∙ c.in_ok-list_slots.ensures.ok l is) c.in_default.ensures k f at;
      told = inl refl;
      reads = reads_weaker g.D.Sectors.history _ _ 18 702 (omega arith) c.list_slots.ensures.reads;
      failures = c.in_ok-list_slots.ensures.failures;
    }

pub open_entry-requires : goal.open_entry-requires
open_entry-requires g c =
    let S = g.D.Sectors.history in
    let (l, is) = c.requires.sound in
    let (f, first, rel) = opened-of (S.image c.args.disk.now) (S.image c.list_slots.new.disk) l
    c.as_slice-slots.result.now c.args.name.now c.in-Some.entry c.index-slots-entry.result
    c.list_slots.ensures.reads.image is (c.as_slice-slots.ensures.value ∙ c.in_ok-list_slots.ensures.ok l is)
    c.in-Some.ensures c.index-slots-entry.is in
    record { of = (f, rel) }

pub returns : goal.returns
returns g c =
    record {
      ok = λ l is.
          let S = g.D.Sectors.history in
          let (f, first, rel) = opened-of (S.image c.args.disk.now) (S.image c.list_slots.new.disk) l
          c.as_slice-slots.result.now c.args.name.now c.in-Some.entry c.index-slots-entry.result
          c.list_slots.ensures.reads.image is (c.as_slice-slots.ensures.value ∙ c.in_ok-list_slots.ensures.ok l is)
          c.in-Some.ensures c.index-slots-entry.is in
          opened (S.image c.args.disk.now) l c.args.name.now c.in-Some.entry f c.open_entry.result is first
          (IfOk-weaker c.open_entry.result _ _ (λ v h. h.0 f rel) c.open_entry.ensures.ok)
          (IfOk-weaker c.open_entry.result _ _ (λ v h. h.1) c.open_entry.ensures.ok);
      not_found = λ l h. IfErr-weaker c.open_entry.result _ _ (λ e is x. device-not-found e is x)
          c.open_entry.ensures.err;
      told = IfErr-weaker c.open_entry.result _ _ (λ e is. inr is) c.open_entry.ensures.err;
      reads = reads_then g.D.Sectors.history _ _ _ 18 684 702 (omega arith) c.list_slots.ensures.reads
          c.open_entry.ensures.reads;
      failures = tells-rel-after g.D.Sectors.history _ _ _ c.in_ok-list_slots.ensures.failures c.open_entry.result
          c.open_entry.ensures.failures;
    }

pub returns-in_err-list_slots : goal.returns-in_err-list_slots
returns-in_err-list_slots g c =
    record {
      ok = λ l h. none-done c.from_residual.result _ c.from_residual.ensures.1 _;
      not_found = λ l h. fault-is c.from_residual.result _ c.from_residual.ensures.1 _
          (λ e is x. device-not-found e (is ∙ c.in_err-list_slots.ensures.err) x);
      told = fault-is c.from_residual.result _ c.from_residual.ensures.1 _
          (λ e is. inr (is ∙ c.in_err-list_slots.ensures.err));
      reads = reads_weaker g.D.Sectors.history _ _ 18 702 (omega arith) c.list_slots.ensures.reads;
      failures = passed-on g.D.Sectors.history _ _ _ refl c.from_residual.result _ c.from_residual.ensures.1
          c.in_err-list_slots.ensures.failures;
    }

pub offset_bounds-slots-entry : goal.offset_bounds-slots-entry
offset_bounds-slots-entry g c = omega (
  arith,
  slice_get_within c.as_slice-slots.result.now c.in-Some.entry c.in-Some.ensures.slot c.in-Some.ensures.there,
  c.as_slice-slots.type_inv.1,
)

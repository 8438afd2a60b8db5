-- The pieces that were written before the one that failed, and all of them.
use Rattle.std.proofs.Common.{◌∙◌, Err, List, ap, arith, inl, inr, length-take, subst, ℕ}
use Rattle.std.proofs.lemmas.List.{take_rest}
use Rattle.std.proofs.lemmas.Result.{err_from_is_err_and}
use Rattle.std.specs.Prelude.{None}
use Rattle.d64_image.specs.Mirrors.{IsHanded}
use Rattle.ledger_cli.proofs.Made.{writing_failed, written_whole}
use Rattle.ledger_cli.specs.Making.{IsHandedPart, image_writes}
use Rattle.ledger_cli.proofs.making.write_over.Goals as goal

pub slice_bounds-hand_over-end-2 : goal.slice_bounds-hand_over-end-2
slice_bounds-hand_over-end-2 g c = omega (arith, c.requires.size, length-take 91648 c.args.image.now)

pub returns-in_err-hand_over : goal.returns-in_err-hand_over
returns-in_err-hand_over g c =
    let p = err_from_is_err_and c.from_residual.result c.from_residual.ensures.1 in
    let e = c.in_err-hand_over.ensures.err in
    writing_failed g.F.Seek.stream_position g.F.Seek.stream_bytes g.F.Write.contents c.args.file.now c.hand_over.new.file
    (image_writes c.args.image.now) c.from_residual.result _ (p.1 ∙ ap Err p.2) e.0 (inl e.1)

pub returns-in_err-hand_over-2 : goal.returns-in_err-hand_over-2
returns-in_err-hand_over-2 g c =
    let r = c.from_residual-in_err-hand_over-2 in
    let p = err_from_is_err_and r.result r.ensures.1 in
    let e = c.in_err-hand_over-2.ensures.err in
    writing_failed g.F.Seek.stream_position g.F.Seek.stream_bytes g.F.Write.contents c.args.file.now c.hand_over-2.new.file
    (image_writes c.args.image.now) r.result _ (p.1 ∙ ap Err p.2) e.0
    (inr (c.hand_over.new.file, c.in_ok-hand_over.ensures.ok, inl e.1))

pub returns-in_err-hand_over-3 : goal.returns-in_err-hand_over-3
returns-in_err-hand_over-3 g c =
    let r = c.from_residual-in_err-hand_over-3 in
    let p = err_from_is_err_and r.result r.ensures.1 in
    let e = c.in_err-hand_over-3.ensures.err in
    writing_failed g.F.Seek.stream_position g.F.Seek.stream_bytes g.F.Write.contents c.args.file.now c.hand_over-3.new.file
    (image_writes c.args.image.now) r.result _ (p.1 ∙ ap Err p.2) e.0
    (inr (
      c.hand_over.new.file,
      c.in_ok-hand_over.ensures.ok,
      inr (
        c.hand_over-2.new.file,
        c.in_ok-hand_over-2.ensures.ok,
        inl (subst (λ (xs : List ℕ). IsHandedPart g.F.Seek.stream_position g.F.Seek.stream_bytes g.F.Write.contents
            c.hand_over-2.new.file c.hand_over-3.new.file 91904 xs) (take_rest c.args.image.now 91904) e.1),
      ),
    ))

pub returns : goal.returns
returns g c =
    written_whole g.F.Seek.stream_position g.F.Seek.stream_bytes g.F.Write.contents c.args.file.now c.hand_over.new.file
    c.hand_over-2.new.file c.hand_over-3.new.file c.hand_over-4.new.file c.args.image.now
    c.in_ok-hand_over.ensures.ok c.in_ok-hand_over-2.ensures.ok
    (subst (λ (xs : List ℕ). IsHanded g.F.Seek.stream_position g.F.Seek.stream_bytes g.F.Write.contents None
    c.hand_over-2.new.file c.hand_over-3.new.file 91904 xs) (take_rest c.args.image.now 91904)
    c.in_ok-hand_over-3.ensures.ok)
    c.hand_over-4.result c.hand_over-4.ensures.ok c.hand_over-4.ensures.err

-- What is written before 18/1 and behind it leaves that spoiled, and so does the end.
use Rattle.std.proofs.Common.{arith, length-take, subst}
use Rattle.std.proofs.lemmas.List.{take_rest}
use Rattle.std.specs.Prelude.{◌≡◌, List, ℕ, option_map}
use Rattle.image_file.specs.Remains.{Changes, IsPutInPart, put_in}
use Rattle.std.proofs.lemmas.Result.{err_from_is_err_and}
use Rattle.image_file.proofs.lemmas.replacing.Filling.{filling, not_filled, since_one, since_three, since_two}
use Rattle.image_file.proofs.replacing.fill.Goals as goal

pub slice_bounds-write_over-end : goal.slice_bounds-write_over-end
slice_bounds-write_over-end g c = omega (arith, c.requires.size, length-take 91648 c.args.image.now)

pub returns-in_err-write_over : goal.returns-in_err-write_over
returns-in_err-write_over g c =
    let p = err_from_is_err_and c.from_residual.result c.from_residual.ensures.1 in
    let r = g.F.EndedFile.remains in
    not_filled r c.args.file.now c.write_over.new.self c.args.image.now c.from_residual.result p.0
    (since_one r c.args.file.now c.write_over.new.self c.args.image.now c.requires.size c.requires.spoiled
    c.write_over.ensures.remain) p.1

pub returns-in_err-write_over-2 : goal.returns-in_err-write_over-2
returns-in_err-write_over-2 g c =
    let result = c.from_residual-in_err-write_over-2.result in
    let p = err_from_is_err_and result c.from_residual-in_err-write_over-2.ensures.1 in
    let r = g.F.EndedFile.remains in
    not_filled r c.args.file.now c.write_over-2.new.self c.args.image.now result p.0
    (since_two r c.args.file.now c.write_over.new.self c.write_over-2.new.self c.args.image.now c.requires.size
    c.requires.spoiled c.write_over.ensures.remain
    (subst (λ (xs : List ℕ). Changes r c.write_over.new.self c.write_over-2.new.self (IsPutInPart 91904 xs))
    (take_rest c.args.image.now 91904) c.write_over-2.ensures.remain)) p.1

pub returns-in_err-end_at : goal.returns-in_err-end_at
returns-in_err-end_at g c =
    let result = c.from_residual-in_err-end_at.result in
    let p = err_from_is_err_and result c.from_residual-in_err-end_at.ensures.1 in
    let r = g.F.EndedFile.remains in
    not_filled r c.args.file.now c.end_at.new.self c.args.image.now result p.0
    (since_three r c.args.file.now c.write_over.new.self c.write_over-2.new.self c.end_at.new.self c.args.image.now
    c.requires.size c.requires.spoiled c.write_over.ensures.remain
    (subst (λ (xs : List ℕ). Changes r c.write_over.new.self c.write_over-2.new.self (IsPutInPart 91904 xs))
    (take_rest c.args.image.now 91904) c.write_over-2.ensures.remain) c.end_at.ensures.remain) p.1

pub returns : goal.returns
returns g c =
    let r = g.F.EndedFile.remains in
    filling r c.args.file.now c.write_over.new.self c.write_over-2.new.self c.end_at.new.self c.sync_whole.new.self
    c.args.image.now c.sync_whole.result c.requires.size
    (since_three r c.args.file.now c.write_over.new.self c.write_over-2.new.self c.end_at.new.self c.args.image.now
    c.requires.size c.requires.spoiled c.write_over.ensures.remain
    (subst (λ (xs : List ℕ). Changes r c.write_over.new.self c.write_over-2.new.self (IsPutInPart 91904 xs))
    (take_rest c.args.image.now 91904) c.write_over-2.ensures.remain) c.end_at.ensures.remain)
    c.in_ok-write_over.ensures.held (subst (λ (xs : List ℕ). r.held c.write_over-2.new.self ≡ option_map (λ all. put_in all 91904 xs) (r.held c.write_over.new.self))
    (take_rest c.args.image.now 91904) c.in_ok-write_over-2.ensures.held) c.in_ok-end_at.ensures.held c.sync_whole.ensures

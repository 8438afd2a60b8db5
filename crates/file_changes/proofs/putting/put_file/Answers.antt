-- A site is chosen, and the file is written there.
use Rattle.std.proofs.Common.{List, Err, Ok, ℕ, ap, ◌<◌, ◌+◌, ◌/◌, ◌∙◌, length, refl, subst, sym}
use Rattle.std.proofs.lemmas.Result.{err_from_is_err_and}
use Rattle.disk_layout.specs.Layout.{Layout}
use Rattle.file_changes.proofs.PutCalls.{put-done, put-failed, put-refused, some-stored}
use Rattle.file_changes.specs.PutWrites.{PutsFile}
use Rattle.file_changes.specs.Puts.{sectors_for}
use Rattle.rel_records.specs.Calls.{Chooses}
use Rattle.rel_records.specs.creation.Site.{IsSite}
use Rattle.file_changes.proofs.putting.put_file.Goals as goal

pub returns-in_err-site : goal.returns-in_err-site
returns-in_err-site g c =
    let S = g.D.Sectors.history in
    let a = c.args.disk.now in
    let b = c.choose_site.new.disk in
    let e = c.in_err-site.field-0.0 in
    let p = err_from_is_err_and c.from_residual.result c.from_residual.ensures.1 in
    let P : List ℕ → Type 0 = λ xs. Chooses S a b c.args.name.now ((length xs + 253) / 254) (Err e) in
    rw (p.1 ∙ ap Err p.2) (put-refused S a b c.args.name.now c.args.kind c.args.content.now
    c.in_err-site.ensures.quiet e (subst P c.stored-content.ensures c.in_err-site.ensures))

pub write_file-requires-clause-some : goal.write_file-requires-clause-some
write_file-requires-clause-some g c = subst (λ (xs : List ℕ). 0 < length xs) (sym c.stored-content.ensures)
    (some-stored c.args.content.now)

pub returns-in-Ok : goal.returns-in-Ok
returns-in-Ok g c =
    let S = g.D.Sectors.history in
    let b = c.choose_site.new.disk in
    let site = c.in_ok-site.site in
    let P : List ℕ → Type 0 = λ xs. Chooses S c.args.disk.now b c.args.name.now ((length xs + 253) / 254) (Ok site) in
    let Q : List ℕ → Type 0 = λ xs. (l : Layout) → IsSite (S.image b) l (sectors_for (length xs)) site
    → PutsFile S b c.write_file.new.disk l c.args.name.now c.args.kind xs (Ok (tt {0})) in
    put-done S c.args.disk.now b c.args.name.now c.args.kind c.args.content.now c.in_ok-site.ensures.quiet site
    c.write_file.new.disk (subst P c.stored-content.ensures c.in_ok-site.ensures) (Ok (tt {0}))
    (subst Q c.stored-content.ensures c.in-Ok.ensures.file) refl c.in-Ok.ensures.failures
    c.in-Ok.ensures.reads

pub returns-in-Err : goal.returns-in-Err
returns-in-Err g c =
    let S = g.D.Sectors.history in
    let b = c.choose_site.new.disk in
    let site = c.in_ok-site.site in
    let e = c.in-Err.field-0 in
    let P : List ℕ → Type 0 = λ xs. Chooses S c.args.disk.now b c.args.name.now ((length xs + 253) / 254) (Ok site) in
    let Q : List ℕ → Type 0 = λ xs. (l : Layout) → IsSite (S.image b) l (sectors_for (length xs)) site
    → PutsFile S b c.write_file.new.disk l c.args.name.now c.args.kind xs (Err e) in
    put-failed S c.args.disk.now b c.args.name.now c.args.kind c.args.content.now c.in_ok-site.ensures.quiet site
    c.write_file.new.disk (subst P c.stored-content.ensures c.in_ok-site.ensures) (Err e)
    (subst Q c.stored-content.ensures c.in-Err.ensures.file) e refl c.in-Err.ensures.failures

-- What is refused, and the file that is written.
use Rattle.std.proofs.Common.{arith, inr, refl, subst, sym, ◌∙◌}
use Rattle.std.proofs.lemmas.Result.{err_from_is_err_and}
use Rattle.d64_image.proofs.Moments.{failed_later}
use Rattle.d64_image.specs.Images.{Image}
use Rattle.rel_records.proofs.creation.create.Goals as goal
use Rattle.rel_records.proofs.lemmas.Told.{device-not-exists, device-not-full, none-done, not-done, passed-on}
use Rattle.rel_records.proofs.lemmas.creation.Entering.{site-taking}
use Rattle.rel_records.proofs.lemmas.creation.Made.{creates-of, made-file, made-then, quiet-moments}
use Rattle.rel_records.specs.creation.Site.{IsSite}

-- no site was chosen
pub returns-in_err-site : goal.returns-in_err-site
returns-in_err-site g c =
    let S = g.D.Sectors.history in
    let d = c.args.disk.now in
    let e = c.choose_site.new.disk in
    let told = err_from_is_err_and c.from_residual.result c.from_residual.ensures.1 in
    creates-of S d e c.args.name.now c.args.size c.from_residual.result (λ l h. record {
      ok = none-done c.from_residual.result _ c.from_residual.ensures.1 _;
      moments = quiet-moments S d e c.choose_site.ensures.quiet l c.args.name.now c.args.size h;
    })
    (record {
      layout = λ l h.
          let told = err_from_is_err_and c.from_residual.result c.from_residual.ensures.1 in
          record {
            exists = rw (told.1, told.2) ((c.in_err-site.ensures.refuses.layout l h).exists);
            full = rw (told.1, told.2) ((c.in_err-site.ensures.refuses.layout l h).full);
            fits = not-done c.from_residual.result _ c.from_residual.ensures.1 _;
          };
      told = rw (told.1, told.2) c.in_err-site.ensures.refuses.told;
      refused = rw (told.1, told.2) c.in_err-site.ensures.refuses.refused;
      failures = passed-on S _ _ _ refl c.from_residual.result _ c.from_residual.ensures.1
          c.in_err-site.ensures.refuses.failures;
    })
    (not-done c.from_residual.result _ c.from_residual.ensures.1 _)

-- the device fails while the file is written
pub returns-in_default : goal.returns-in_default
returns-in_default g c =
    let S = g.D.Sectors.history in
    let made = made-then S c.args.disk.now c.choose_site.new.disk c.write_file.new.disk c.args.name.now c.args.size
    c.in_ok-site.site c.in_ok-site.ensures _ c.in_default.ensures.file in
    creates-of S c.args.disk.now c.write_file.new.disk c.args.name.now c.args.size _
    (λ l h. record { ok = tt; moments = (made l h).moments })
    (record {
      layout = λ l h.
          record { exists = λ e. device-not-exists _ refl e; full = λ e. device-not-full _ refl e; fits = tt };
      told = inr (inr refl);
      refused = λ ne. absurd (ne refl);
      failures = failed_later S _ _ _ c.in_ok-site.ensures.refuses.failures c.in_default.ensures.failures;
    }) tt

pub write_file-requires-clause-site : goal.write_file-requires-clause-site
write_file-requires-clause-site g c =
    let (l, usable) = c.requires.usable in
    let P : Image → Type 0 = λ i. IsSite i l 2 c.in_ok-site.site in
    (l, subst P (sym c.choose_site.ensures.quiet.image) (c.in_ok-site.ensures.ok l usable.1.layout))

pub returns : goal.returns
returns g c =
    let S = g.D.Sectors.history in
    let site = c.in_ok-site.site in
    let made = made-then S c.args.disk.now c.choose_site.new.disk c.write_file.new.disk c.args.name.now c.args.size site
    c.in_ok-site.ensures _ c.in-Ok.ensures.file in
    creates-of S c.args.disk.now c.write_file.new.disk c.args.name.now c.args.size _
    (λ l h. record {
      ok = made-file (S.image c.args.disk.now) l c.args.name.now c.args.size site (S.image c.write_file.new.disk)
          c.file_at.result (made l h).ok c.file_at.ensures;
      moments = (made l h).moments;
    })
    (record {
      layout = λ l h. record { exists = tt; full = tt; fits = (c.in_ok-site.ensures.refuses.layout l h).fits };
      told = tt;
      refused = tt;
      failures = c.in-Ok.ensures.failures ∙ c.in_ok-site.ensures.refuses.failures;
    })
    (omega (arith, c.in-Ok.ensures.reads, c.in_ok-site.ensures.reads))

pub file_at-requires-clause-two : goal.file_at-requires-clause-two
file_at-requires-clause-two g c =
    let (l, usable) = c.requires.usable in
    (site-taking (g.D.Sectors.history.image c.args.disk.now) l 2 c.in_ok-site.site
    (c.in_ok-site.ensures.ok l usable.1.layout)).count

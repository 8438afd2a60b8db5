-- A fuse round a disk: how many writes it still lets pass, and what it keeps over any run of calls. Our own.
use Rattle.std.specs.Prelude.{ℕ, ◌≡◌, ◌≤◌, ◌+◌, ◌-◌, ◌⊎◌, refl}
use Rattle.std.proofs.Common.{◌∙◌, inl, inr, ⊎_elim, le_refl, arith}
use Rattle.d64_image.specs.declared.fuse.Fuse.{Fuse}
use Rattle.d64_image.specs.declared.place.Place.{Place}
use Rattle.d64_image.specs.History.{History, Failed, through}

-- the disk beneath
abbrev pub fuse_disk : {D : Type 0} → Fuse D → D
fuse_disk f = f.disk

-- how many writes it lets pass in all
abbrev pub fuse_limit : {D : Type 0} → Fuse D → ℕ
fuse_limit f = f.limit

-- how many writes it has let pass
abbrev pub fuse_passed : {D : Type 0} → Fuse D → ℕ
fuse_passed f = f.passed

-- how many writes it still lets pass; at 0 it has blown
abbrev pub fuse_left : {D : Type 0} → Fuse D → ℕ
fuse_left f = f.limit - f.passed

-- how many of its calls failed
abbrev pub fuse_failures : {D : Type 0} → Fuse D → ℕ
fuse_failures f = f.failed.n

-- From old to new: the limit stayed. If a call failed, the fuse has blown, or the disk beneath it failed.
pub record IsFused {D : Type 0} (h : History D) (old new : Fuse D) : Type 0 where
  pub limit : fuse_limit new ≡ fuse_limit old
  pub passed : fuse_passed old ≤ fuse_passed new
  pub beneath : h.reached (fuse_disk old) (fuse_disk new)
  pub failures : h.failures (fuse_disk old) ≤ h.failures (fuse_disk new)
  -- the disk beneath counts no write that didn't pass the fuse
  pub writes : h.writes (fuse_disk new) + fuse_passed old ≤ h.writes (fuse_disk old) + fuse_passed new
  -- a blown fuse lets nothing through
  pub spent : fuse_left old ≡ 0 → fuse_disk new ≡ fuse_disk old
  pub cause : (fuse_failures new ≡ fuse_failures old) ⊎ ((fuse_left new ≡ 0) ⊎ Failed h (fuse_disk old) (fuse_disk new))

pub fused_same : {D : Type 0} (h : History D) (f : Fuse D) → IsFused h f f
fused_same h f = record {
  limit = refl;
  passed = le_refl f.passed;
  beneath = h.reached_same f.disk;
  failures = le_refl (h.failures f.disk);
  writes = le_refl (h.writes f.disk + f.passed);
  spent = λ _. refl;
  cause = inl refl;
}

pub failed_from : {D : Type 0} (h : History D) (a b c : D) → h.failures a ≤ h.failures b → Failed h b c → Failed h a c
failed_from h a b c le f = record { later = omega (arith, le, f.later); rose = λ lt. omega (arith, le, f.rose lt) }

pub failed_to : {D : Type 0} (h : History D) (a b c : D) → Failed h a b → h.failures b ≤ h.failures c → Failed h a c
failed_to h a b c f le = record {
  later = omega (arith, f.later, le);
  rose = λ lt. omega (arith, f.rose (omega (arith, lt, le)), le);
}

pub fused_then : {D : Type 0} (h : History D) (a b c : Fuse D) → IsFused h a b → IsFused h b c → IsFused h a c
fused_then h a b c x y = record {
  limit = y.limit ∙ x.limit;
  passed = omega (arith, x.passed, y.passed);
  beneath = h.reached_then a.disk b.disk c.disk x.beneath y.beneath;
  failures = omega (arith, x.failures, y.failures);
  writes = omega (arith, x.writes, y.writes);
  spent = λ e. y.spent (omega (arith, e, x.limit, x.passed)) ∙ x.spent e;
  cause = ⊎_elim
      (λ same. ⊎_elim
      (λ e. inl (e ∙ same))
      (λ z. ⊎_elim (λ l. inr (inl l)) (λ f. inr (inr (failed_from h a.disk b.disk c.disk x.failures f))) z)
      y.cause)
      (λ w. ⊎_elim
      (λ l. inr (inl (omega (arith, l, y.limit, y.passed))))
      (λ f. inr (inr (failed_to h a.disk b.disk c.disk f y.failures)))
      w)
      x.cause;
}

-- The fuse has blown and fails each call, or the disk beneath failed there.
abbrev pub fails_at : {D : Type 0} → History D → Fuse D → Place → Type 0
fails_at h f p = (fuse_left f ≡ 0) ⊎ h.failed_at (fuse_disk f) p

pub fails_still : {D : Type 0} (h : History D) (a b : Fuse D) (p : Place) → IsFused h a b → fails_at h a p
    → fails_at h b p
fails_still h a b p x failed = ⊎_elim
    (λ (blown : fuse_left a ≡ 0). inl (omega (arith, blown, x.limit, x.passed)))
    (λ beneath. inr (h.failed_stays a.disk b.disk p x.beneath beneath))
    failed

-- A fuse counts the writes that it let pass, and its own failures.
abbrev pub fuse : {D : Type 0} → History D → History (Fuse D)
fuse h = record (through fuse_disk h) {
  writes = fuse_passed;
  failures = fuse_failures;
  last = 18446744073709551615;
  up_to_last = λ f. f.failed.fits;
  reached = IsFused h;
  reached_same = fused_same h;
  reached_then = fused_then h;
  failed_at = fails_at h;
  failed_stays = fails_still h;
}

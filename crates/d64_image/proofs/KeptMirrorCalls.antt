-- A call of a mirror, by what its file and memory did.
use Rattle.std.proofs.Common.{Err, None, Ok, Option, Result, Some, ap, ap₂, arith, inl, inr, le_refl, min, refl, sym}
use Rattle.std.proofs.Common.{false, subst, ◌+◌, ◌∙◌, ◌≡◌, ◌≤◌, ◌⊎◌}
use Rattle.std.proofs.Math.Nat.{le_of_eq}
use Rattle.std.proofs.lemmas.Bool.{false≢true}
use Rattle.std.proofs.lemmas.Option.{none-some}
use Rattle.std.specs.Prelude.{IsErr, IsOk, OnErr, OnOk}
use Rattle.d64_image.specs.Calls.{ReadsSector, WritesSector}
use Rattle.d64_image.specs.Faults.{device_fault}
use Rattle.d64_image.specs.History.{ChangesInOneStep, HeldOnly, OldOr, OnlyReads}
use Rattle.d64_image.specs.Images.{Image, Sector, put, sector}
use Rattle.d64_image.specs.Keeps.{Agrees, FileFailed, KeepsSector, KeptInOneStep, KeptOnly, kept_or, put_kept}
use Rattle.d64_image.specs.Memory.{disk_image}
use Rattle.d64_image.specs.KeptMirrors.{IsMirrored, is_broken, mirror, mirror_image, one_if, one_if-small}
use Rattle.d64_image.specs.declared.faults.DeviceFault.{DeviceFault}
use Rattle.d64_image.specs.declared.kept_mirror.KeptMirror.{KeptMirror}
use Rattle.d64_image.specs.declared.place.Place.{Place}
use Rattle.d64_image.specs.declared.sector_file.SectorFile.{Ghosts}
use Rattle.d64_image.proofs.Counting.{none_passed, not_fewer, not_same, one_counted, one_more}
use Rattle.d64_image.proofs.Moments.{no_reads, reads_weaker}

-- what holds at Ok, of a result that is Ok
pub at_ok : {T E : Type 0} {P : Type 0} (r : Result T E) → IsOk r → OnOk r P → P
at_ok (Ok x) ok holds = holds
at_ok (Err e) ok holds = absurd (false≢true ok)

pub not_err : {T E : Type 0} (r : Result T E) (P : Type 0) → IsOk r → OnErr r P
not_err (Ok x) P ok = tt
not_err (Err e) P ok = absurd (false≢true ok)

module _ (p : Place) (bytes : Sector) where
  -- what a file keeps of a disk that is written, or where it refused
  put_known : (o : Option Image) (img c : Image) → put_kept o p bytes ≡ Some c → c ≡ put (kept_or o img) p bytes
  put_known None img c e = absurd (none-some c e)
  put_known (Some d) img c e = cc

  kept_after : (o now : Option Image) (img : Image) → (now ≡ o) ⊎ (now ≡ put_kept o p bytes)
      → OldOr (kept_or o img) (put (kept_or o img) p bytes) (kept_or now img)
  kept_after o now img (inl e) = inl (ap (λ x. kept_or x img) e)
  kept_after None now img (inr e) = inl (ap (λ x. kept_or x img) e)
  kept_after (Some d) now img (inr e) = inr (ap (λ x. kept_or x img) e)

  put_both : (o now : Option Image) (img after : Image) → now ≡ put_kept o p bytes → after ≡ put img p bytes
      → kept_or now after ≡ put (kept_or o img) p bytes
  put_both None now img after e d = ap (λ x. kept_or x after) e ∙ d
  put_both (Some c) now img after e d = ap (λ x. kept_or x after) e

  pub agrees_after : (o now : Option Image) (img after : Image) → now ≡ put_kept o p bytes → after ≡ put img p bytes
      → Agrees o img → Agrees now after
  agrees_after o now img after e d agrees =
      put_both o now img after e d ∙ ap (λ (c : Image). put c p bytes) agrees ∙ sym d

module _ {F : Type 0} {G : Ghosts F} (m : KeptMirror F G) (p : Place) (bytes : Sector) where
  abbrev old : Image
  old = mirror_image m

  abbrev Either : Image → Type 0
  Either = OldOr old (put old p bytes)

  abbrev IsKeptBy : Image → Type 0
  IsKeptBy c = (G.keeps.kept m.file ≡ Some c) ⊎ (put_kept (G.keeps.kept m.file) p bytes ≡ Some c)

  known : (c : Image) → IsKeptBy c → Either c
  known c (inl e) = inl (sym (ap (λ o. kept_or o (disk_image m.disk)) e))
  known c (inr e) = inr (put_known p bytes (G.keeps.kept m.file) (disk_image m.disk) c e)

  -- what the file kept on the way, the mirror held
  held_above : (n : KeptMirror F G) → IsMirrored m n → KeptOnly G.keeps m.file n.file IsKeptBy → Either (mirror_image n)
      → HeldOnly mirror m n Either
  held_above n mirrored kept now = record {
    reached = mirrored;
    later = kept.later;
    each = λ c held. elim held [ inl e ↦ subst Either (sym e) now | inr h ↦ known c (kept.each c h) ];
    before = λ t c le held. elim held [
      | inl e ↦ inr (subst Either (sym e) now)
      | inr h ↦ elim (kept.before t c le h) [ inl before ↦ inl (inr before) | inr k ↦ inr (known c k) ]
    ];
  }

  -- what the file kept at the start or at the end, the mirror held then
  kept_at : (n : KeptMirror F G) (c : Image) → (G.keeps.kept m.file ≡ Some c) ⊎ (G.keeps.kept n.file ≡ Some c)
      → OldOr old (mirror_image n) c
  kept_at n c (inl e) = inl (sym (ap (λ o. kept_or o (disk_image m.disk)) e))
  kept_at n c (inr e) = inr (sym (ap (λ o. kept_or o (disk_image n.disk)) e))

  one_step_above : (n : KeptMirror F G) → IsMirrored m n → KeptInOneStep G.keeps m.file n.file → ChangesInOneStep mirror m n
  one_step_above n mirrored kept = record {
    reached = mirrored;
    later = kept.later;
    each = λ c held. elim held [ inl e ↦ inr e | inr h ↦ kept_at n c (kept.each c h) ];
    before = λ t c le held. elim held [
      | inl e ↦ inr (inr e)
      | inr h ↦ elim (kept.before t c le h) [ inl before ↦ inl (inr before) | inr k ↦ inr (kept_at n c k) ]
    ];
  }

  -- the file refused the sector, or the mirror was broken and handed nothing over
  pub record IsRefused (file : F) : Type 0 where
    pub kept : KeptOnly G.keeps m.file file IsKeptBy
    pub one_step : KeptInOneStep G.keeps m.file file
    pub now : (G.keeps.kept file ≡ G.keeps.kept m.file) ⊎ (G.keeps.kept file ≡ put_kept (G.keeps.kept m.file) p bytes)
    pub failures : G.keeps.failures m.file ≤ G.keeps.failures file
    pub broken : is_broken m → file ≡ m.file
    pub cause : is_broken m ⊎ FileFailed G.keeps m.file file
    pub writes : G.keeps.writes file ≡ G.keeps.writes m.file

  pub refused-broken : is_broken m → IsRefused m.file
  refused-broken was = record {
    kept = record {
      reached = G.keeps.reached_same m.file;
      later = le_refl (G.keeps.moment m.file);
      each = λ c held. inl (G.keeps.only_now m.file c held);
      before = λ t c le held. inl held;
    };
    one_step = record {
      reached = G.keeps.reached_same m.file;
      later = le_refl (G.keeps.moment m.file);
      each = λ c held. inl (G.keeps.only_now m.file c held);
      before = λ t c le held. inl held;
    };
    now = inl refl;
    failures = le_refl (G.keeps.failures m.file);
    broken = λ _. refl;
    cause = inl was;
    writes = refl;
  }

  pub refused-by_file : {T E : Type 0} (file : F) (r : Result T E) → IsErr r → m.broken ≡ false
      → KeepsSector G.keeps m.file file p bytes r → IsRefused file
  refused-by_file file (Ok x) err whole keeps = absurd (false≢true err)
  refused-by_file file (Err e) err whole keeps = record {
    kept = keeps.held;
    one_step = keeps.one_step;
    now = keeps.err;
    failures = keeps.failures.later;
    broken = λ was. absurd (false≢true (sym whole ∙ was));
    cause = inr keeps.failures;
    writes = keeps.uncounted;
  }

  pub write_refused : (n : KeptMirror F G) → IsRefused n.file → is_broken n → n.disk ≡ m.disk → n.taken ≡ m.taken
      → WritesSector {D = KeptMirror F G} {T = Unit {0}} {E = DeviceFault} mirror m n p bytes device_fault (Err device_fault)
  write_refused n refused broken disk taken =
      let now : Either (mirror_image n) = rw disk (kept_after p bytes (G.keeps.kept m.file) (G.keeps.kept n.file)
      (disk_image m.disk) refused.now) in
      let count = ap (λ t. t.n) taken in
      let mirrored : IsMirrored m n = record {
        file = refused.kept.reached;
        failures = refused.failures;
        broken = λ was. (broken, refused.broken was);
        unfailed = λ whole. absurd (whole broken);
        failed = λ _. refused.cause;
        taken = le_of_eq (sym count);
        counted = λ few. none_passed (G.keeps.writes m.file) (G.keeps.writes n.file) m.taken.n n.taken.n refused.writes
            count;
        quiet = λ _ _. inl broken;
      } in
      record {
        ok = tt;
        err = now;
        held = held_above n mirrored refused.kept now;
        one_step = one_step_above n mirrored refused.one_step;
        counted = tt;
        uncounted = count;
        reads = refl;
        failures = record {
          later = rw broken (one_if-small m.broken);
          rose = λ lt. absurd (omega (arith, lt, ap one_if broken));
        };
        told = refl;
        failed = broken;
      }

  -- the file kept the sector, and memory took it
  pub write_taken : {T E : Type 0} (n : KeptMirror F G) (r : Result T E) (done : Result (Unit {0}) DeviceFault) → IsOk r
      → IsOk done
      → m.broken ≡ false → n.broken ≡ m.broken → KeepsSector G.keeps m.file n.file p bytes r
      → disk_image n.disk ≡ put (disk_image m.disk) p bytes
      → n.taken.n ≡ min (m.taken.n + 1) 18446744073709551615
      → WritesSector {D = KeptMirror F G} mirror m n p bytes device_fault done
  write_taken n (Err e) done kept ok whole same keeps disk one = absurd (false≢true kept)
  write_taken n (Ok x) (Err e) kept ok whole same keeps disk one = absurd (false≢true ok)
  write_taken n (Ok x) (Ok y) kept ok whole same keeps disk one =
      let now : mirror_image n ≡ put old p bytes = put_both p bytes (G.keeps.kept m.file) (G.keeps.kept n.file)
      (disk_image m.disk) (disk_image n.disk) keeps.ok disk in
      let mirrored : IsMirrored m n = record {
        file = keeps.held.reached;
        failures = le_of_eq (sym keeps.failures);
        broken = λ was. absurd (false≢true (sym whole ∙ was));
        unfailed = λ _. keeps.failures;
        failed = λ broken. inl (sym same ∙ broken);
        taken = not_fewer m.taken.n n.taken.n 18446744073709551615 m.taken.fits one;
        counted = λ few. one_counted (G.keeps.writes m.file) (G.keeps.writes n.file) m.taken.n n.taken.n
            18446744073709551615 keeps.counted one few;
        quiet = λ equal few. absurd (not_same m.taken.n n.taken.n 18446744073709551615 one equal few);
      } in
      record {
        ok = now;
        err = tt;
        held = held_above n mirrored keeps.held (inr now);
        one_step = one_step_above n mirrored keeps.one_step;
        counted = one_more m.taken.n n.taken.n 18446744073709551615 one;
        uncounted = tt;
        reads = refl;
        failures = ap one_if same;
        told = tt;
        failed = tt;
      }

  -- a broken mirror reads nothing
  pub read_broken : is_broken m → ReadsSector {D = KeptMirror F G} {T = Unit {0}} {E = DeviceFault} mirror m m p bytes
      device_fault (Err device_fault)
  read_broken broken = record {
    sector = tt;
    reads = reads_weaker mirror m m 0 1 (omega arith) (no_reads mirror m);
    failures = record { later = le_refl (one_if m.broken); rose = λ lt. absurd (omega (arith, lt, ap one_if broken)) };
    told = refl;
    failed = broken;
  }

  -- memory answers, and its image stays
  module _ (n : KeptMirror F G) (file : n.file ≡ m.file) (same : n.broken ≡ m.broken) (taken : n.taken ≡ m.taken)
      (disk : disk_image n.disk ≡ disk_image m.disk) where
    image_stays : mirror_image n ≡ old
    image_stays = ap₂ (λ (f : F) (img : Image). kept_or (G.keeps.kept f) img) file disk

    stays : IsMirrored m n
    stays =
        let count = ap (λ t. t.n) taken in
        record {
          file = subst (λ f. G.keeps.reached m.file f) (sym file) (G.keeps.reached_same m.file);
          failures = le_of_eq (ap G.keeps.failures (sym file));
          broken = λ was. (same ∙ was, file);
          unfailed = λ _. ap G.keeps.failures file;
          failed = λ now. inl (sym same ∙ now);
          taken = le_of_eq (sym count);
          counted = λ few. none_passed (G.keeps.writes m.file) (G.keeps.writes n.file) m.taken.n n.taken.n
              (ap G.keeps.writes file) count;
          quiet = λ _ _. inr file;
        }

    only_reads : OnlyReads mirror m n 1
    only_reads = record {
      image = image_stays;
      held = record {
        reached = stays;
        later = le_of_eq (ap G.keeps.moment (sym file));
        each = λ c held. elim held [
          | inl e ↦ e ∙ image_stays
          | inr h ↦ sym (ap (λ o. kept_or o (disk_image m.disk)) (G.keeps.only_now m.file c
              (subst (λ f. G.keeps.held f (G.keeps.moment m.file) c) file h)))
        ];
        before = λ t c le held. elim held [
          | inl e ↦ inr (e ∙ image_stays)
          | inr h ↦ inl (inr (subst (λ f. G.keeps.held f t c) file h))
        ];
      };
      reads = omega arith;
      writes = ap (λ t. t.n) taken;
    }

    pub read_passed : (done : Result (Unit {0}) DeviceFault) → m.broken ≡ false → IsOk done
        → OnOk done (bytes ≡ sector (disk_image m.disk) p)
        → ReadsSector {D = KeptMirror F G} mirror m n p bytes device_fault done
    read_passed (Err e) whole ok there = absurd (false≢true ok)
    read_passed (Ok x) whole ok there = record {
      sector = there ∙ ap (λ (img : Image). sector img p) (sym (m.agrees (λ was. false≢true (sym whole ∙ was))));
      reads = only_reads;
      failures = ap one_if same;
      told = tt;
      failed = tt;
    }

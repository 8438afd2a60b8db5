-- A device that takes sectors from another disk.
use Rattle.std.proofs.Common.{◌≡◌, ◌⊎◌, ⊎_elim, ap, inl, inr, subst, sym, ◌∙◌}
use Rattle.std.specs.Prelude.{Err, Ok, OnOk, Result, length}
use Rattle.d64_image.proofs.Images.{sector-put_other, sector-put_same}
use Rattle.d64_image.proofs.Moments.{at_end, start, then, weaker}
use Rattle.d64_image.proofs.Places.{same_or_other}
use Rattle.d64_image.specs.Calls.{WritesSector}
use Rattle.d64_image.specs.History.{History, OldOr}
use Rattle.d64_image.specs.Images.{Image, Sector, put, sector}
use Rattle.d64_image.specs.declared.place.Place.{Place}
use Rattle.disk_layout.specs.declared.faults.Fault.{Fault}
use Rattle.disk_layout.specs.declared.faults.Fault.TheVariants.{Device}
use Rattle.layout_check.proofs.lemmas.mending.MapMends.{device_later, write_device}
use Rattle.damaged_files.specs.sides.Taken.{HasThese, IsMix, Nears, Takes, TakesSoFar}

-- a sector of b put into a mix
mix-put : (a b c : Image) (p : Place) (w : Sector) → w ≡ sector b p → length c ≡ 683 → IsMix a b c → IsMix a b (put c p w)
mix-put a b c p w is size mix q = elim (same_or_other p q) [
  | inl e ↦ let P : Place → Type 0 = λ x. sector (put c p w) x ≡ sector b x in
      inr (subst P e (sector-put_same c p w size ∙ is))
  | inr ne ↦ elim (mix q) [
    | inl x ↦ inl (sector-put_other c p q w ne ∙ x)
    | inr y ↦ inr (sector-put_other c p q w ne ∙ y)
  ]
]

put-stays : (b c : Image) (p q : Place) (w : Sector) → w ≡ sector b p → length c ≡ 683 → sector c q ≡ sector b q
    → sector (put c p w) q ≡ sector b q
put-stays b c p q w is size same = elim (same_or_other p q) [
  | inl e ↦ let P : Place → Type 0 = λ x. sector (put c p w) x ≡ sector b x in
      subst P e (sector-put_same c p w size ∙ is)
  | inr ne ↦ sector-put_other c p q w ne ∙ same
]

module _ {D : Type 0} (S : History D) (a b : Image) where
  nears-none : (d : D) → IsMix a b (S.image d) → Nears S a b d d
  nears-none d mix = record { moments = start S d (IsMix a b) mix; stays = λ p same. same }

  nears-then : (c d e : D) → Nears S a b c d → Nears S a b d e → Nears S a b c e
  nears-then c d e first second = record {
    moments = then S c d e (IsMix a b) first.moments second.moments;
    stays = λ p same. second.stays p (first.stays p same);
  }

  after : (c d : D) → IsMix a b (S.image c) → (IsMix a b (S.image c) → Nears S a b c d) → IsMix a b (S.image d)
  after c d mix nears = at_end S c d (IsMix a b) (nears mix).moments

  -- one sector written
  pub takes-write : (p : Place) (w : Sector) (c d : D) (r : Result (Unit {0}) Fault) → w ≡ sector b p
      → WritesSector S c d p w (Device p) r → Takes S a b (λ q. q ≡ p) c d r
  takes-write p w c d r is h = record {
    nears = λ mix. record {
      moments = weaker S c d (OldOr (S.image c) (put (S.image c) p w)) (IsMix a b) (λ i. each mix i) h.held;
      stays = λ q same. either (at_end S c d (OldOr (S.image c) (put (S.image c) p w)) h.held) q same;
    };
    taken = done r h.ok;
    failures = write_device S (Unit {0}) c d p w r h;
  }
    where
      size : length (S.image c) ≡ 683
      size = (S.whole c).size

      each : IsMix a b (S.image c) → (i : Image) → OldOr (S.image c) (put (S.image c) p w) i → IsMix a b i
      each mix i (inl e) = subst (IsMix a b) (sym e) mix
      each mix i (inr e) = subst (IsMix a b) (sym e) (mix-put a b (S.image c) p w is size mix)

      either : OldOr (S.image c) (put (S.image c) p w) (S.image d) → (q : Place)
          → sector (S.image c) q ≡ sector b q → sector (S.image d) q ≡ sector b q
      either (inl e) q same = ap (λ (i : Image). sector i q) e ∙ same
      either (inr e) q same = ap (λ (i : Image). sector i q) e ∙ put-stays b (S.image c) p q w is size same

      done : (r : Result (Unit {0}) Fault) → OnOk r (S.image d ≡ put (S.image c) p w)
          → OnOk r (IsMix a b (S.image c) → HasThese b (λ q. q ≡ p) (S.image d))
      done (Ok x) e = λ mix q same. let P : Place → Type 0 = λ x. sector (S.image d) x ≡ sector b x in
          subst P (sym same) (ap (λ (i : Image). sector i p) e ∙ sector-put_same (S.image c) p w size ∙ is)
      done (Err f) e = tt

  module _ (These Those All : Place → Type 0) where
    -- and these
    pub so-far-more : (c d e : D) (x : Unit {0}) → ((p : Place) → All p → These p ⊎ Those p)
        → TakesSoFar S a b These c d → Takes S a b Those d e (Ok x) → TakesSoFar S a b All c e
    so-far-more c d e x split old step = record {
      nears = λ mix. nears-then c d e (old.nears mix) (step.nears (after c d mix old.nears));
      taken = λ mix p own. let now = after c d mix old.nears in
          ⊎_elim (λ had. (step.nears now).stays p (old.taken mix p had)) (λ new. step.taken now p new) (split p own);
      failures = step.failures ∙ old.failures;
    }

    -- all of them
    pub so-far-all : (c d : D) (x : Unit {0}) → ((p : Place) → All p → These p) → TakesSoFar S a b These c d
        → Takes S a b All c d (Ok x)
    so-far-all c d x split old = record {
      nears = old.nears;
      taken = λ mix p own. old.taken mix p (split p own);
      failures = old.failures;
    }

    -- a failure ends it
    pub so-far-failed : (c d e : D) (f : Fault) → TakesSoFar S a b These c d → Takes S a b Those d e (Err f)
        → Takes S a b All c e (Err f)
    so-far-failed c d e f old step = record {
      nears = λ mix. nears-then c d e (old.nears mix) (step.nears (after c d mix old.nears));
      taken = tt;
      failures = device_later S (Unit {0}) c d e (Err f) old.failures step.failures;
    }

-- where the two disks are the same
pub takes-from : {D : Type 0} (S : History D) (a b i j : Image) (These : Place → Type 0) (c d : D)
    (r : Result (Unit {0}) Fault) → i ≡ a → j ≡ b → Takes S i j These c d r → Takes S a b These c d r
takes-from S a b i j These c d r e f h =
    let P : Image → Type 0 = λ x. Takes S x j These c d r in
    let Q : Image → Type 0 = λ x. Takes S a x These c d r in
    subst Q f (subst P e h)

-- Bytes are written into a chain of sectors, the last sector first.
use Rattle.std.proofs.Common.{◌≡◌, ◌≤◌, ◌+◌, ◌*◌, ℕ, zero, suc, inl, inr, List, [], ◌∷◌, ap, arith, drop}
use Rattle.std.proofs.Common.{length, refl, Some, subst, sym, take, ◌∙◌}
use Rattle.std.proofs.lemmas.List.{drop-drop}
use Rattle.std.proofs.Math.Seq.{drop-length}
use Rattle.std.specs.Prelude.{Contains, Option, slice_get}
use Rattle.d64_image.proofs.Images.{sector-put_other, sector-put_same}
use Rattle.d64_image.proofs.Moments.{at_end, changes_then, changes_weaker}
use Rattle.d64_image.specs.History.{Changes, History, OldOr}
use Rattle.d64_image.specs.Images.{Image, Sector, put, sector}
use Rattle.d64_image.specs.declared.place.Place.{Place}
use Rattle.disk_layout.proofs.lemmas.counts.Recount.{around}
use Rattle.disk_layout.proofs.lemmas.layouts.Layouts.{get-contains}
use Rattle.disk_layout.proofs.lemmas.lists.Lists.{get-drop}
use Rattle.disk_layout.proofs.lemmas.lists.Once.{Contains-here, Contains-there, EachOnce-right}
use Rattle.disk_layout.specs.Chain.{EachOnce}
use Rattle.file_changes.specs.PutWrites.{SameBeside}
use Rattle.file_changes.specs.Puts.{HoldsChain, chain_sector}

-- these sectors hold what they held
pub holds-frame : (a b : Image) (ps : List Place) (bytes : List ℕ)
    → ((q : Place) → Contains ps q → sector b q ≡ sector a q) → HoldsChain a ps bytes → HoldsChain b ps bytes
holds-frame a b [] bytes same h = tt
holds-frame a b (p ∷ ps) bytes same h = (
  same p (Contains-here p ps) ∙ h.0,
  holds-frame a b ps (drop 254 bytes) (λ q c. same q (Contains-there q p ps c)) h.1,
)

drop-at : (ps : List Place) (k : ℕ) (p : Place) → slice_get ps k ≡ Some p → drop k ps ≡ p ∷ drop (suc k) ps
drop-at [] k p at = cc
drop-at (q ∷ qs) zero p at = let e : q ≡ p = cc in ap (λ x. x ∷ qs) e
drop-at (q ∷ qs) (suc k) p at = drop-at qs k p at

-- the sectors from number k on are written
pub record IsWrittenFrom (old now : Image) (ps : List Place) (bytes : List ℕ) (k : ℕ) : Type 0 where
  pub chain : HoldsChain now (drop k ps) (drop (254 * k) bytes)
  pub rest : SameBeside old ps now

pub from-none : (old : Image) (ps : List Place) (bytes : List ℕ) → IsWrittenFrom old old ps bytes (length ps)
from-none old ps bytes = record {
  chain = let P : List Place → Type 0 = λ qs. HoldsChain old qs (drop (254 * length ps) bytes) in
      subst P (sym (drop-length ps)) tt;
  rest = λ q out. refl;
}

same-put : (a b : Image) (ps : List Place) (p : Place) (bytes : Sector) → Contains ps p → SameBeside a ps b
    → SameBeside a ps (put b p bytes)
same-put a b ps p bytes on h q out =
    sector-put_other b p q bytes (λ e. out (let P : Place → Type 0 = Contains ps in subst P e on)) ∙ h q out

module _ (old now : Image) (ps : List Place) (bytes : List ℕ) (k : ℕ) (p : Place) (full : length now ≡ 683)
    (once : EachOnce ps) (at : slice_get ps k ≡ Some p) where
  abbrev block : Sector
  block = chain_sector (slice_get ps (k + 1)) (take 254 (drop (254 * k) bytes))

  on : Contains ps p
  on = get-contains ps k p at

  gone : ¬ (Contains (drop (suc k) ps) p)
  gone =
      let P : List Place → Type 0 = EachOnce in
      (EachOnce-right (take k ps) (p ∷ drop (suc k) ps) (subst P (around ps k p at) once)).0

  -- one sector more
  pub from-more : IsWrittenFrom old now ps bytes (k + 1) → IsWrittenFrom old (put now p block) ps bytes k
  from-more h =
      let next : k + 1 ≡ suc k = omega arith in
      let P : List Place → Type 0 = λ qs. HoldsChain (put now p block) qs (drop (254 * k) bytes) in
      let Q : List ℕ → Type 0 = λ bs. HoldsChain now (drop (k + 1) ps) bs in
      let R : ℕ → Type 0 = λ n. HoldsChain now (drop n ps) (drop 254 (drop (254 * k) bytes)) in
      let same : 254 * k + 254 ≡ 254 * (k + 1) = omega arith in
      let first : k + 1 + 0 ≡ k + 1 = omega arith in
      let tail : drop (254 * (k + 1)) bytes ≡ drop 254 (drop (254 * k) bytes) =
      ap (λ (n : ℕ). drop n bytes) (sym same) ∙ sym (drop-drop 254 (254 * k) bytes) in
      let head : slice_get (drop (suc k) ps) 0 ≡ slice_get ps (k + 1) =
      ap (λ (n : ℕ). slice_get (drop n ps) 0) (sym next) ∙ get-drop ps (k + 1) 0 ∙ ap (slice_get ps) first in
      record {
        chain = subst P (sym (drop-at ps k p at)) (
          sector-put_same now p block full
              ∙ ap (λ (o : Option Place). chain_sector o (take 254 (drop (254 * k) bytes))) (sym head),
          holds-frame now (put now p block) (drop (suc k) ps) (drop 254 (drop (254 * k) bytes))
              (λ q c. sector-put_other now p q block (λ e. gone (let S : Place → Type 0 = Contains (drop (suc k) ps) in
              subst S (sym e) c)))
              (subst R next (subst Q tail h.chain)),
        );
        rest = same-put old now ps p block on h.rest;
      }

module _ {D : Type 0} (S : History D) (a b c : D) (ps : List Place) (p : Place) (bytes : Sector) where
  pub beside-more : (n m : ℕ) → n + 1 ≤ m → Contains ps p → Changes S a b n (SameBeside (S.image a) ps)
      → Changes S b c 1 (OldOr (S.image b) (put (S.image b) p bytes)) → Changes S a c m (SameBeside (S.image a) ps)
  beside-more n m le on so_far now =
      let P : Image → Type 0 = SameBeside (S.image a) ps in
      let here : SameBeside (S.image a) ps (S.image b) = at_end S a b _ so_far.held in
      changes_then S a b c n 1 m _ le so_far (changes_weaker S b c 1 1 _ P (omega arith) (λ x is. elim is [
        | inl e ↦ subst P (sym e) here
        | inr e ↦ subst P (sym e) (same-put (S.image a) (S.image b) ps p bytes on here)
      ]) now)

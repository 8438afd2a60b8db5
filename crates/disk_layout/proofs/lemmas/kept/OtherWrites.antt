-- A sector written where its bytes are others than those that it has.
use Rattle.std.proofs.Common.{
  ℕ,
  ◌≡◌,
  ◌≢◌,
  Bool,
  true,
  List,
  Result,
  Ok,
  Err,
  length,
  sym,
  ◌∙◌,
  ap,
  arith,
  inl,
  inr,
  refl,
}
use Rattle.std.specs.Prelude.{not}
use Rattle.std.specs.Str.{bytes_eq}
use Rattle.std.proofs.lemmas.Bool.{false≢true}
use Rattle.std.proofs.lemmas.Slice.Eq.{bytes_eq-Decides}
use Rattle.d64_image.proofs.Images.{put-sector, sector-put_same}
use Rattle.d64_image.proofs.Moments.{counted_once, start}
use Rattle.d64_image.specs.Calls.{WritesSector}
use Rattle.d64_image.specs.History.{Changes, History, OldOr}
use Rattle.d64_image.specs.Images.{Image, Sector, put, sector}
use Rattle.d64_image.specs.declared.place.Place.{Place}
use Rattle.disk_layout.specs.InOrder.{WritesOther}

-- two lists of bytes, compared
pub equal-bytes : (xs ys : List ℕ) (r : Bool) → r ≡ bytes_eq xs ys → r ≡ true → xs ≡ ys
equal-bytes xs ys r is on = (bytes_eq-Decides xs ys).0 (sym is ∙ on)

pub other-bytes : (xs ys : List ℕ) (r : Bool) → r ≡ not (bytes_eq xs ys) → r ≡ true → xs ≢ ys
other-bytes xs ys r is on e = false≢true (sym (ap not ((bytes_eq-Decides xs ys).1 e)) ∙ sym is ∙ on)

-- a write of the bytes that are there changes nothing
pub put-same : (c : Image) (p : Place) (had wanted : Sector) → had ≡ sector c p → had ≡ wanted → c ≡ put c p wanted
put-same c p had wanted read same = sym (put-sector c p) ∙ ap (put c p) (sym read ∙ same)

-- and one of other bytes changes the sector
pub put-changed : (c d : Image) (p : Place) (had wanted : Sector) → length c ≡ 683 → had ≡ sector c p → had ≢ wanted
    → d ≡ put c p wanted → sector d p ≢ sector c p
put-changed c d p had wanted size read other done same = other (read ∙ sym same ∙ ap (λ (i : Image). sector i p) done
    ∙ sector-put_same c p wanted size)

module _ {D : Type 0} (S : History D) where
  -- no call does what a write of the bytes that are there does
  pub unwritten : {T E : Type 0} (d : D) (p : Place) (had wanted : Sector) (fault : E) (x : T)
      → had ≡ sector (S.image d) p → had ≡ wanted → WritesSector S d d p wanted fault (Ok x)
  unwritten d p had wanted fault x read same = record {
    ok = put-same (S.image d) p had wanted read same;
    err = tt;
    held = start S d (OldOr (S.image d) (put (S.image d) p wanted)) (inl refl);
    one_step = start S d (OldOr (S.image d) (S.image d)) (inl refl);
    counted = omega arith;
    uncounted = tt;
    reads = refl;
    failures = refl;
    told = tt;
    failed = tt;
  }

  -- a write of other bytes than the sector had, which may have failed
  pub other_written : {T E : Type 0} (a b : D) (p : Place) (had wanted : Sector) (fault : E) (r : Result T E)
      → had ≡ sector (S.image a) p → had ≢ wanted → WritesSector S a b p wanted fault r → WritesOther S a b p
  other_written a b p had wanted fault (Ok x) read other w =
      inr (put-changed (S.image a) (S.image b) p had wanted (S.whole a).size read other w.ok, w.counted)
  other_written a b p had wanted fault (Err e) read other w = inl w.uncounted

  -- the images of a write, which is counted once at most
  pub write_changes : {T E : Type 0} (a b : D) (p : Place) (bytes : Sector) (fault : E) (r : Result T E)
      → WritesSector S a b p bytes fault r → Changes S a b 1 (OldOr (S.image a) (put (S.image a) p bytes))
  write_changes a b p bytes fault r w = record { held = w.held; writes = counted_once S a b r w.counted w.uncounted }

-- What stands while all but 18/1 is written.
use Rattle.std.proofs.Common.{◌≡◌, ◌≤◌, ◌<◌, ◌+◌, ◌∙◌, ℕ, List, Some, Result, Err, ap, arith, sym, subst}
use Rattle.std.proofs.Common.{length, take, drop, ⊎_elim, length-take, length-drop}
use Rattle.std.specs.Prelude.{option_map}
use Rattle.std.proofs.lemmas.Result.{on_ok_weaker}
use Rattle.image_file.specs.Remains.{Changes, IsBroughtWhole, IsInPart, IsPutInPart}
use Rattle.image_file.specs.Remains.{Remains, ended_behind, put_in}
use Rattle.image_file.specs.Replacing.{AllAreSpoiled, IsFilled, IsFilling}
use Rattle.image_file.specs.Replacing.{IsSpoiled, Since}
use Rattle.image_file.proofs.lemmas.replacing.Indices.{index_before, index_behind, index_ended}
use Rattle.image_file.proofs.lemmas.replacing.Filled.{filled_up}
use Rattle.image_file.proofs.lemmas.replacing.Sinces.{made_of, now_kept, since_change, since_then}
use Rattle.image_file.proofs.lemmas.replacing.Brought.{on_ok, on_err, since_brought, brought_of}

-- bytes before 18/1 or behind it leave it spoiled
kept_before : (n : ℕ) (bytes from s : List ℕ) → n + length bytes ≤ 91648 → IsPutInPart n bytes from s → IsSpoiled from
    → IsSpoiled s
kept_before n bytes from s le part spoiled = ⊎_elim
    (λ same. same ∙ spoiled) (λ new. new ∙ index_behind from n bytes 91648 le ∙ spoiled) (part.mixed.each 91648)

kept_behind : (n : ℕ) (bytes from s : List ℕ) → 91648 < n → IsPutInPart n bytes from s → IsSpoiled from → IsSpoiled s
kept_behind n bytes from s lt part spoiled = ⊎_elim
    (λ same. same ∙ spoiled) (λ new. new ∙ index_before from n bytes 91648 lt ∙ spoiled) (part.mixed.each 91648)

kept_ended : (n : ℕ) (from s : List ℕ) → 91648 < n → IsInPart from (ended_behind from n) s → IsSpoiled from → IsSpoiled s
kept_ended n from s lt part spoiled = ⊎_elim
    (λ same. same ∙ spoiled) (λ new. new ∙ index_ended from n 91648 lt ∙ spoiled) (part.each 91648)

module _ {F : Type 0} (r : Remains F) where
  pub since_before : (a b : F) (n : ℕ) (bytes : List ℕ) → n + length bytes ≤ 91648 → AllAreSpoiled r a
      → Changes r a b (IsPutInPart n bytes) → Since r a b IsSpoiled
  since_before a b n bytes le now remain =
      since_change r a b _ _ remain (λ from s is part. kept_before n bytes from s le part (now from is))

  pub since_behind : (a b : F) (n : ℕ) (bytes : List ℕ) → 91648 < n → AllAreSpoiled r a
      → Changes r a b (IsPutInPart n bytes) → Since r a b IsSpoiled
  since_behind a b n bytes lt now remain =
      since_change r a b _ _ remain (λ from s is part. kept_behind n bytes from s lt part (now from is))

  pub since_ended : (a b : F) (n : ℕ) → 91648 < n → AllAreSpoiled r a
      → Changes r a b (λ from s. IsInPart from (ended_behind from n) s) → Since r a b IsSpoiled
  since_ended a b n lt now remain =
      since_change r a b _ _ remain (λ from s is part. kept_ended n from s lt part (now from is))

  -- a step more, of files all of which are spoiled
  pub spoiled_on : (old a b : F) → AllAreSpoiled r old → Since r old a IsSpoiled
      → (AllAreSpoiled r a → Since r a b IsSpoiled) → Since r old b IsSpoiled
  spoiled_on old a b now first next = since_then r old a b IsSpoiled first (next (now_kept r old a IsSpoiled now first))

  pub since_one : (old a : F) (image : List ℕ) → length image ≡ 174848 → AllAreSpoiled r old
      → Changes r old a (IsPutInPart 0 (take 91648 image)) → Since r old a IsSpoiled
  since_one old a image size now first =
      since_before old a 0 (take 91648 image) (omega (arith, size, length-take 91648 image)) now first

  pub since_two : (old a b : F) (image : List ℕ) → length image ≡ 174848 → AllAreSpoiled r old
      → Changes r old a (IsPutInPart 0 (take 91648 image)) → Changes r a b (IsPutInPart 91904 (drop 91904 image))
      → Since r old b IsSpoiled
  since_two old a b image size now first last = spoiled_on old a b now (since_one old a image size now first)
      (λ then. since_behind a b 91904 (drop 91904 image) (omega arith) then last)

  pub since_three : (old a b c : F) (image : List ℕ) → length image ≡ 174848 → AllAreSpoiled r old
      → Changes r old a (IsPutInPart 0 (take 91648 image)) → Changes r a b (IsPutInPart 91904 (drop 91904 image))
      → Changes r b c (λ from s. IsInPart from (ended_behind from 174848) s) → Since r old c IsSpoiled
  since_three old a b c image size now first last end = spoiled_on old b c now (since_two old a b image size now first last)
      (λ then. since_ended b c 174848 (omega arith) then end)

  pub not_filled : {E : Type 0} (old a : F) (image : List ℕ) (result : Result Unit E) (e : E) → Since r old a IsSpoiled
      → result ≡ Err e → IsFilling r old a image result
  not_filled old a image result e since is = record {
    since = since;
    ok = on_err result e _ is;
    held = on_err result e _ is;
  }

  -- the image is filled up, by the whole of what was put
  is_filled : (image all : List ℕ) → length image ≡ 174848
      → IsFilled image (ended_behind (put_in (put_in all 0 (take 91648 image)) 91904 (drop 91904 image)) 174848)
  is_filled image all size =
      let f = filled_up all (take 91648 image) (drop 91904 image) 256 91904 174848
      (omega (arith, size, length-take 91648 image)) (omega (arith, size, length-drop 91904 image)) in
      record { some = f.0; size = f.1; is = f.2 }

  pub filling : {E : Type 0} (old a b c d : F) (image : List ℕ) (result : Result Unit E) → length image ≡ 174848
      → Since r old c IsSpoiled
      → r.held a ≡ option_map (λ all. put_in all 0 (take 91648 image)) (r.held old)
      → r.held b ≡ option_map (λ all. put_in all 91904 (drop 91904 image)) (r.held a)
      → r.held c ≡ option_map (λ all. ended_behind all 174848) (r.held b)
      → IsBroughtWhole r c d result → IsFilling r old d image result
  filling old a b c d image result size since first last end brought =
      let all_filled : (s : List ℕ) → r.held d ≡ Some s → IsFilled image s = λ s is.
      let z = brought_of r b c d _ result end brought s is in
      let y = made_of _ (r.held a) z.0 (sym last ∙ z.1) in
      let x = made_of _ (r.held old) y.0 (sym first ∙ y.1) in
      subst (IsFilled image) (ap (λ (v : List ℕ). ended_behind (put_in v 91904 (drop 91904 image)) 174848) x.2
      ∙ ap (λ (v : List ℕ). ended_behind v 174848) y.2 ∙ z.2) (is_filled image x.0 size) in
      record {
        since = since_then r old c d IsSpoiled since (since_brought r c d IsSpoiled result brought);
        ok = on_ok_weaker result (λ all. ((λ s is. all_filled s (all s is)), all_filled)) brought.ok;
        held = on_ok result _ (λ all is. (
          ended_behind (put_in (put_in all 0 (take 91648 image)) 91904 (drop 91904 image)) 174848,
          brought.same ∙ end ∙ ap (option_map (λ all. ended_behind all 174848)) (last
              ∙ ap (option_map (λ all. put_in all 91904 (drop 91904 image))) (first
              ∙ ap (option_map (λ all. put_in all 0 (take 91648 image))) is)),
        ));
      }

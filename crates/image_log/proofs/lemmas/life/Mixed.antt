-- Images that are written over another one.
use Rattle.std.proofs.Common.{◌≡◌, ◌≤◌, ◌<◌, ◌⊎◌, ◌∙◌, ℕ, List, [], ap, arith, get_or, inl, inr, length, refl, slice_index, sym, ⊎_elim}
use Rattle.std.proofs.lemmas.Bool.{cases_eq, cases_lt}
use Rattle.std.proofs.lemmas.List.{get_or-set_other, get_or-set_same, get_or_past, length-set, set-get_or}
use Rattle.std.specs.Prelude.{slice_index_or, slice_set}
use Rattle.d64_image.specs.Images.{Image}
use Rattle.image_log.specs.Recovered.{base_of}
use Rattle.image_log.specs.life.Bringing.{IsLanding}
use Rattle.image_log.specs.life.Folders.{Folder, IsImageWritten}
use Rattle.image_log.specs.life.Mixes.{IsMixOf, byte_of}
use Rattle.image_log.specs.life.Shops.{LogGives}

-- nothing of it was written yet
pub none_written : (base shop image : Image) → image ≡ base → IsMixOf base shop image
none_written base shop image is = record { each = λ i j low small. inl (ap (λ (x : Image). byte_of x i j) is) }

-- all of it was
pub all_written : (base shop image : Image) → image ≡ shop → IsMixOf base shop image
all_written base shop image is = record { each = λ i j low small. inr (ap (λ (x : Image). byte_of x i j) is) }

-- an IMAGE beside which a log gives an image
pub mix_gives : (f : List ℕ) (image given : Image) → LogGives f image given → IsMixOf (base_of f) given image
mix_gives f image given gives = ⊎_elim (none_written (base_of f) given image) (λ marked. marked.1) gives.own

-- more of it is written
pub mix_more : (base shop from image : Image) → IsMixOf base shop from → IsMixOf from shop image → IsMixOf base shop image
mix_more base shop from image mix more = record {
  each = λ i j low small. ⊎_elim
      (λ stays. ⊎_elim (λ was. inl (stays ∙ was)) (λ was. inr (stays ∙ was)) (mix.each i j low small))
      (λ new. inr new)
      (more.each i j low small);
}

-- where it is in the end as at first, it was so on the way
pub mix_back : (base shop first then last : Image) → IsMixOf first shop then → IsMixOf then shop last → last ≡ first
    → IsMixOf base shop then → IsMixOf base shop first
mix_back base shop first then last one two same mix = record {
  each = λ i j low small.
      let back : byte_of first i j ≡ byte_of last i j = ap (λ (x : Image). byte_of x i j) (sym same) in
      ⊎_elim
      (λ stays. ⊎_elim (λ was. inl (sym stays ∙ was)) (λ was. inr (sym stays ∙ was)) (mix.each i j low small))
      (λ new. ⊎_elim (λ stays. inr (back ∙ stays ∙ new)) (λ is. inr (back ∙ is)) (two.each i j low small))
      (one.each i j low small);
}

-- a sector of it was written
sector_set : (image : Image) (index : ℕ) (bytes : List ℕ) (i j : ℕ)
    → (byte_of (slice_set image index bytes) i j ≡ byte_of image i j)
    ⊎ ((i ≡ index) × (byte_of (slice_set image index bytes) i j ≡ slice_index bytes j))
sector_set image index bytes i j = ⊎_elim same other (cases_eq i index)
  where
    here : List ℕ → ℕ
    here b = slice_index b j

    other : (i ≡ index → ⊥) → (byte_of (slice_set image index bytes) i j ≡ byte_of image i j)
        ⊎ ((i ≡ index) × (byte_of (slice_set image index bytes) i j ≡ slice_index bytes j))
    other not = inl (ap here (get_or-set_other image index i bytes [] not))

    same : i ≡ index → (byte_of (slice_set image index bytes) i j ≡ byte_of image i j)
        ⊎ ((i ≡ index) × (byte_of (slice_set image index bytes) i j ≡ slice_index bytes j))
    same is = ⊎_elim
        (λ (low : index < length image). inr (
          is,
          ap (λ (k : ℕ). here (get_or (slice_set image index bytes) k [])) is
              ∙ ap here (get_or-set_same image index bytes [] low),
        ))
        (λ (past : length image ≤ index). inl (ap here (
        get_or_past (slice_set image index bytes) i [] (omega (arith, past, is, length-set image index bytes))
        ∙ sym (get_or_past image i [] (omega (arith, past, is)))
        )))
        (cases_lt index (length image))

-- nothing of it was
pub unwritten : (index : ℕ) (bytes : List ℕ) (s : Folder) → IsImageWritten index bytes s s
unwritten index bytes s = record {
  log = refl;
  making = refl;
  sector = slice_index_or s.image index [];
  torn = record { size = λ is. refl; each = λ j. inl refl };
  image = sym (set-get_or s.image index []);
}

-- or is torn
written_each : (index : ℕ) (bytes : List ℕ) (from s : Folder) → IsImageWritten index bytes from s → (i j : ℕ)
    → (byte_of s.image i j ≡ byte_of from.image i j) ⊎ ((i ≡ index) × (byte_of s.image i j ≡ slice_index bytes j))
written_each index bytes from s written i j =
    let is = ap (λ (x : Image). byte_of x i j) written.image in
    ⊎_elim
    (λ stays. inl (is ∙ stays))
    (λ new. ⊎_elim
    (λ old. inl (is ∙ new.1 ∙ old ∙ ap (λ (k : ℕ). byte_of from.image k j) (sym new.0)))
    (λ put. inr (new.0, is ∙ new.1 ∙ put))
    (written.torn.each j))
    (sector_set from.image index written.sector i j)

pub mix_sector : (index : ℕ) (bytes : List ℕ) (base shop : Image) (from s : Folder) → slice_index_or shop index [] ≡ bytes
    → IsImageWritten index bytes from s → IsMixOf base shop from.image → IsMixOf base shop s.image
mix_sector index bytes base shop from s is written mix = record {
  each = λ i j low small. ⊎_elim
      (λ stays. ⊎_elim (λ was. inl (stays ∙ was)) (λ was. inr (stays ∙ was)) (mix.each i j low small))
      (λ new. inr (new.1 ∙ ap (λ (b : List ℕ). slice_index b j) (sym is) ∙ ap (λ (k : ℕ). byte_of shop k j) (sym new.0)))
      (written_each index bytes from s written i j);
}

pub landing_sector : (log : List ℕ) (index : ℕ) (bytes : List ℕ) (base shop : Image) (from s : Folder)
    → slice_index_or shop index [] ≡ bytes → IsImageWritten index bytes from s → IsLanding log base shop from
    → IsLanding log base shop s
landing_sector log index bytes base shop from s is written landing = (
  written.log ∙ landing.0,
  mix_sector index bytes base shop from s is written landing.1,
)

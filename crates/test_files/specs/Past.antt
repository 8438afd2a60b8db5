-- Contents that a disk had. Our own.
use Rattle.std.specs.Prelude.{◌≡◌, ◌⊎◌, ℕ, List, [], ◌∷◌, Vec, drop, length}
use Rattle.std.proofs.Common.{inl, inr}
use Rattle.std.specs.List.{AllByRecursion}
use Rattle.std.specs.declared.alloc.Global.{Global}

-- each of these contents has as many bytes as an image
abbrev pub AreImages : List (Vec ℕ Global) → Type 0
AreImages past = AllByRecursion (λ v. length v.items ≡ 174848) past

-- one of these contents is this
abbrev pub HadBeen : List (Vec ℕ Global) → List ℕ → Type 0
HadBeen [] bytes = ⊥
HadBeen (v ∷ past) bytes = (bytes ≡ v.items) ⊎ HadBeen past bytes

none_left : (past : List (Vec ℕ Global)) (bytes : List ℕ) → HadBeen (drop (length past) past) bytes → ⊥
none_left [] bytes had = had
none_left (v ∷ past) bytes had = none_left past bytes had

-- since the last of them there is what is there now
pub only_now_of : (past : List (Vec ℕ Global)) (now bytes : List ℕ)
    → (bytes ≡ now) ⊎ HadBeen (drop (length past) past) bytes → bytes ≡ now
only_now_of past now bytes (inl same) = same
only_now_of past now bytes (inr had) = absurd (none_left past bytes had)

-- A disk to which other bytes come.
use Rattle.std.proofs.Common.{◌≡◌, ◌⊎◌, ◌∙◌, ◌++◌, ◌+◌, ◌∷◌, ℕ, List, [], Some, ap, arith, drop, inl, inr, length, refl}
use Rattle.std.proofs.Common.{subst, sym, ⊎_elim}
use Rattle.std.specs.Prelude.{Vec}
use Rattle.std.proofs.lemmas.List.{drop-append-le, drop_at, length_push}
use Rattle.std.specs.declared.alloc.Global.{Global}
use Rattle.image_file.specs.Lasting.{StaysOr}
use Rattle.test_files.specs.declared.disk.Disk.{Disk}
use Rattle.test_files.specs.Disks.{disk_lasting}
use Rattle.test_files.specs.Past.{AreImages, HadBeen}

-- one content more
pub images_more : (past : List (Vec ℕ Global)) (v : Vec ℕ Global) → AreImages past → length v.items ≡ 174848
    → AreImages (past ++ v ∷ [])
images_more [] v all size = (size, tt)
images_more (x ∷ past) v all size = (all.0, images_more past v all.1 size)

-- which had been there
pub had_been_last : (past : List (Vec ℕ Global)) (v : Vec ℕ Global) (bytes : List ℕ) → v.items ≡ bytes
    → HadBeen (past ++ v ∷ []) bytes
had_been_last [] v bytes same = inl (sym same)
had_been_last (x ∷ past) v bytes same = inr (had_been_last past v bytes same)

had_been_more : (past : List (Vec ℕ Global)) (v : Vec ℕ Global) (bytes : List ℕ) → HadBeen (past ++ v ∷ []) bytes
    → HadBeen past bytes ⊎ (bytes ≡ v.items)
had_been_more [] v bytes (inl same) = inr same
had_been_more [] v bytes (inr rest) = elim rest [ ]
had_been_more (x ∷ past) v bytes (inl same) = inl (inl same)
had_been_more (x ∷ past) v bytes (inr rest) =
    ⊎_elim (λ h. inl (inr h)) (λ h. inr h) (had_been_more past v bytes rest)

-- other bytes came to a disk, which keeps what stood there
pub brought : (a b : Disk) (v : Vec ℕ Global) (bytes : List ℕ) → v.items ≡ a.bytes.items
    → b.past.items ≡ a.past.items ++ v ∷ [] → b.bytes.items ≡ bytes → StaysOr disk_lasting a b (Some bytes)
brought a b v bytes was items now =
    let longer : length b.past.items ≡ length a.past.items + 1 = ap length items ∙ length_push a.past.items v in
    record {
      now = inr (ap Some now);
      later = omega (arith, longer);
      each = λ all stayed. ⊎_elim (λ e. inr (ap Some (sym e)))
          (λ had. ⊎_elim (λ e. inl (ap Some (sym (e ∙ was)))) (λ none. absurd none)
          (subst (λ (past : List (Vec ℕ Global)). HadBeen past all)
          (ap (drop (length a.past.items)) items ∙ drop_at a.past.items (v ∷ []) (length a.past.items) refl)
          had))
          stayed;
      before = λ t all le stayed. ⊎_elim (λ e. inr (inr (ap Some (sym e))))
          (λ had. ⊎_elim (λ h. inl (inr h)) (λ e. inr (inl (ap Some (sym (e ∙ was)))))
          (had_been_more (drop t a.past.items) v all
          (subst (λ (past : List (Vec ℕ Global)). HadBeen past all)
          (ap (drop t) items ∙ drop-append-le t a.past.items (v ∷ []) le) had)))
          stayed;
    }

-- or nothing came to it
pub left_alone : (a : Disk) (bytes : List ℕ) → StaysOr disk_lasting a a (Some bytes)
left_alone a bytes = record {
  now = inl refl;
  later = omega arith;
  each = λ all stayed. inl (disk_lasting.only_now a all stayed);
  before = λ t all le stayed. inl stayed;
}

-- The records of a text's lines stored, line after line.
use Rattle.std.proofs.Common.{◌≡◌, ◌≢◌, ◌≤◌, ◌+◌, inl, inr, ℕ, List, [], ◌∷◌, ◌++◌, Option, Result, Ok, Err, length}
use Rattle.std.proofs.Common.{refl, subst, sym, ap, ◌∙◌, arith}
use Rattle.std.specs.Prelude.{slice_index}
use Rattle.std.proofs.lemmas.Bool.{cases_Bool}
use Rattle.std.proofs.lemmas.List.{append_assoc, append-nil, length-append}
use Rattle.d64_image.specs.History.{History}
use Rattle.disk_layout.specs.Layout.{File, Layout, record_length}
use Rattle.line_text.specs.bytes.Lines.{IsLineOf}
use Rattle.rel_records.proofs.lemmas.Usable.{still-usable}
use Rattle.rel_records.specs.File.{IsFileOf, IsOf, length_of, records_in}
use Rattle.rel_records.specs.Others.{LeavesRecords}
use Rattle.rel_records.specs.Usable.{IsUsable}
use Rattle.rel_records.specs.declared.rel_file.RelFile.{RelFile}
use Rattle.disk_layout.specs.Records.{records}
use Rattle.disk_changes.proofs.lemmas.lines.Composed.{had-kept, stored-longer, stored-then}
use Rattle.disk_changes.proofs.lemmas.lines.Folds.{greatest-front}
use Rattle.disk_changes.proofs.lemmas.lines.LastOnes.{ones-keep, ones-skip, place-behind, place-last}
use Rattle.disk_changes.proofs.lemmas.lines.LineStored.{if-last, if-not_last}
use Rattle.disk_changes.specs.lines.Stores.{AreLinesOf, CanStore, NewRecord, TellsLast, greatest, if_last, is_among}
use Rattle.disk_changes.specs.lines.Stores.{last_ones, last_place, stored}
use Rattle.disk_changes.specs.lines.Storing.{StoresLines}
use Rattle.command_faults.specs.declared.faults.CommandFault.{CommandFault}

-- of so many lines those that count were stored, and these lines, of the other records, are left
pub record StoringTo {D W : Type 0} (S : History D) (contents : W → Option (List ℕ)) (a now : D) (o p : W) (l : Layout)
    (n : ℕ) (f : File)
    (v w : RelFile) (h : ℕ) (xs : List NewRecord) (rest : List (List ℕ)) (place : ℕ) : Type 0 where
  pub done : List NewRecord
  pub left : List NewRecord
  pub split : done ++ left ≡ xs
  pub counted : place ≡ length done
  pub are_lines : AreLinesOf (length_of v) h rest left
  -- those of the beginning that count
  pub kept : List NewRecord
  pub ones : kept ++ last_ones left ≡ last_ones xs
  pub stores : StoresLines S contents a now o p l n f v w kept (Ok tt)

-- the record of the first line, and those of the others
pub record NextOf (L h : ℕ) (line : List ℕ) (rest : List (List ℕ)) (left : List NewRecord) : Type 0 where
  pub new : NewRecord
  pub more : List NewRecord
  pub is : left ≡ new ∷ more
  pub is_line : IsLineOf line new.number new.bytes
  pub can : CanStore L h new
  pub are_lines : AreLinesOf L h rest more

next-of : (L h : ℕ) (line : List ℕ) (rest : List (List ℕ)) (left : List NewRecord) → AreLinesOf L h (line ∷ rest) left
    → NextOf L h line rest left
next-of L h line rest [] are = absurd are
next-of L h line rest (x ∷ more) are = record {
  new = x;
  more = more;
  is = refl;
  is_line = are.0;
  can =
      are.1;
  are_lines = are.2;
}

none-left : (L h : ℕ) (left : List NewRecord) → AreLinesOf L h [] left → left ≡ []
none-left L h [] are = refl
none-left L h (x ∷ left) are = absurd are

-- the record of a line, where it counts, and those behind it that count
ones-next : (table : List ℕ) (xs done more : List NewRecord) (x : NewRecord) (place : ℕ) → TellsLast table xs
    → x.number ≤ 182880 → done ++ x ∷ more ≡ xs → place ≡ length done + 1
    → if_last table place x ++ last_ones more ≡ last_ones (x ∷ more)
ones-next table xs done more x place tells high all here =
    let told : slice_index table x.number ≡ last_place x.number (done ++ x ∷ more) =
    tells x.number high ∙ ap (last_place x.number) (sym all) in
    elim (cases_Bool (is_among x.number more)) [
      | inl among ↦
          let other : slice_index table x.number ≢ place =
          λ same. omega (arith, same, here, told, place-behind done x more among) in
          ap (λ (ys : List NewRecord). ys ++ last_ones more) (sym (if-not_last table place x other))
          ∙ sym (ones-skip x more among)
      | inr none ↦
          let same : slice_index table x.number ≡ place = told ∙ place-last done x more none ∙ sym here in
          ap (λ (ys : List NewRecord). ys ++ last_ones more) (sym (if-last table place x same))
          ∙ sym (ones-keep x more none)
    ]

module _ {D W : Type 0} (S : History D) (contents : W → Option (List ℕ)) (a b : D) (o p : W) (l : Layout) (n : ℕ)
    (f : File) (v w : RelFile) (h : ℕ) (xs : List NewRecord) (of : IsFileOf (S.image a) l n f v)
    (reach : greatest xs ≤ records_in v) where
  pub all-stored : (rest : List (List ℕ)) (place : ℕ) → StoringTo S contents a b o p l n f v w h xs rest place
      → rest ≡ [] → StoresLines S contents a b o p l n f v w (last_ones xs) (Ok tt)
  all-stored rest place to none =
      let over = none-left (length_of v) h to.left
      (subst (λ (ls : List (List ℕ)). AreLinesOf (length_of v) h ls to.left) none to.are_lines) in
      subst (λ (ys : List NewRecord). StoresLines S contents a b o p l n f v w ys (Ok tt))
      (sym (append-nil to.kept) ∙ ap (λ (ys : List NewRecord). to.kept ++ last_ones ys) (sym over) ∙ to.ones) to.stores

  module _ (table : List ℕ) (tells : TellsLast table xs) (line : List ℕ) (rest left_lines : List (List ℕ)) (place : ℕ)
      (to : StoringTo S contents a b o p l n f v w h xs left_lines place) (next_is : left_lines ≡ line ∷ rest) where
    abbrev next : NextOf (length_of v) h line rest to.left
    next = next-of (length_of v) h line rest to.left
        (subst (λ (ls : List (List ℕ)). AreLinesOf (length_of v) h ls to.left) next_is to.are_lines)

    abbrev here : LeavesRecords (S.image a) (S.image b) l n
        (stored (record_length f.slot) to.kept (records (S.image a) f)) w
    here = to.stores.ok.0

    pub next-usable : IsUsable (S.image a) → IsUsable (S.image b)
    next-usable usable = still-usable (S.image a) (S.image b) l here.layout of.layout usable here.clean

    pub next-file : IsOf (S.image b) w
    next-file = (here.layout, n, here.file, here.of)

    all-are : to.done ++ next.new ∷ next.more ≡ xs
    all-are = ap (λ (ys : List NewRecord). to.done ++ ys) (sym next.is) ∙ to.split

    next-can : CanStore (length_of w) h next.new
    next-can = subst (λ (L : ℕ). CanStore L h next.new) (sym to.stores.ok.1) next.can

    next-there : next.new.number ≤ records_in w
    next-there =
        let few = subst (λ (ys : List NewRecord). next.new.number ≤ greatest ys) all-are
        (greatest-front to.done next.more next.new) in
        let had = had-kept (S.image a) (S.image b) l n f v w (record_length f.slot) to.kept of here in
        omega (arith, few, reach, had)

    pub next-line : (k : ℕ) × (x : NewRecord) × IsLineOf line x.number x.bytes × CanStore (length_of w) k x
        × (x.number ≤ records_in w)
    next-line = (h, next.new, next.is_line, next-can, next-there)

    -- what is stored of the next line
    abbrev one : List NewRecord
    one = if_last table (place + 1) next.new

    one-place : place + 1 ≡ length to.done + 1
    one-place = ap (λ (m : ℕ). m + 1) to.counted

    all-ones : (to.kept ++ one) ++ last_ones next.more ≡ last_ones xs
    all-ones =
        append_assoc to.kept one (last_ones next.more)
        ∙ ap (λ (ys : List NewRecord). to.kept ++ ys)
        (ones-next table xs to.done next.more next.new (place + 1) tells next.can.high all-are one-place
        ∙ ap last_ones (sym next.is))
        ∙ to.ones

    module _ (c : D) (q : W) (u : RelFile) (r : Result (Unit {0}) CommandFault)
        (stores : (m : Layout) (j : ℕ) (e : File) → IsFileOf (S.image b) m j e w → (k : ℕ) (x : NewRecord)
        → IsLineOf line x.number x.bytes → CanStore (length_of w) k x → x.number ≤ records_in w
        → StoresLines S contents b c p q m j e w u (if_last table (place + 1) x) r) where
      both : StoresLines S contents a c o q l n f v u (to.kept ++ one) r
      both = stored-then S contents l n f a b c o p q v w u to.kept one of to.stores r
          (stores here.layout n here.file here.of h next.new next.is_line next-can next-there)

      pub one-more : r ≡ Ok tt → StoringTo S contents a c o q l n f v u h xs rest (place + 1)
      one-more ok = record {
        done = to.done ++ next.new ∷ [];
        left = next.more;
        split = append_assoc to.done (next.new ∷ []) next.more ∙ all-are;
        counted = one-place ∙ sym (length-append to.done (next.new ∷ []));
        are_lines = next.are_lines;
        kept = to.kept ++ one;
        ones = all-ones;
        stores = subst (λ (s : Result (Unit {0}) CommandFault). StoresLines S contents a c o q l n f v u (to.kept ++ one)
            s)
            ok both;
      }

      pub one-failed : (fault : CommandFault) → r ≡ Err fault
          → StoresLines S contents a c o q l n f v u (last_ones xs) (Err fault)
      one-failed fault err =
          subst (λ (ys : List NewRecord). StoresLines S contents a c o q l n f v u ys (Err fault)) all-ones
          (stored-longer S contents l n f a c o q v u (to.kept ++ one) (last_ones next.more) fault
          (subst (λ (s : Result (Unit {0}) CommandFault). StoresLines S contents a c o q l n f v u (to.kept ++ one) s)
          err both))

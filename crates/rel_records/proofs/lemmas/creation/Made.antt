-- What creation leaves: the new file as it is kept, and that of all others.
use Rattle.std.proofs.Common.{◌≡◌, ℕ, suc, zero, ◌+◌, ◌<◌, inl, inr, List, [], ◌∷◌, ◌++◌, Some, ap, arith, length, map}
use Rattle.std.proofs.Common.{refl, subst, sym, ◌∙◌}
use Rattle.std.specs.Prelude.{Ok, OnOk, Result, option_map, slice_get, slice_index, ◌≤◌}
use Rattle.std.proofs.lemmas.Option.{slice_get-map}
use Rattle.d64_image.proofs.Moments.{at_end, changes_then, changes_weaker, no_write_change}
use Rattle.d64_image.specs.History.{Changes, History, WritesNothing}
use Rattle.d64_image.specs.Images.{Image}
use Rattle.d64_image.specs.declared.faults.DeviceFault.{DeviceFault}
use Rattle.disk_layout.proofs.lemmas.kept.Kept.{entry-byte}
use Rattle.disk_layout.proofs.lemmas.lists.Lists.{made-from}
use Rattle.disk_layout.specs.Layout.{File, IsLayout, Layout, is_rel_type}
use Rattle.disk_layout.specs.Same.{Stays, stays_of}
use Rattle.rel_records.specs.Calls.{Chooses, Creates, CreatesFile, MakesFile, Refuses}
use Rattle.rel_records.specs.File.{IsFileOf}
use Rattle.rel_records.specs.creation.Made.{HasFileMore, HasFilesOf, IsCreating, IsMade, StaysOf, creation_writes}
use Rattle.rel_records.specs.creation.Site.{HasFileAt, IsFileAt, IsSite}
use Rattle.rel_records.specs.declared.creation.site.Site.{Site}
use Rattle.rel_records.specs.declared.faults.RelFault.{RelFault}
use Rattle.rel_records.specs.declared.rel_file.RelFile.{RelFile}

-- the new file, and what is kept of it
pub made-file : (a : Image) (l : Layout) (name : List ℕ) (L : ℕ) (st : Site) (c : Image) (v : RelFile)
    → HasFileAt a l name L st c → IsFileAt L st v → IsMade a l name L c v
made-file a l name L st c v h at = record {
  more = h.more;
  of = record {
    layout = h.more.sound;
    there = ap (slice_get h.more.layout.files) at.entry ∙ h.there;
    rel = h.more.named.0;
    shows = record {
      sector = at.sector ∙ sym h.sector;
      number = at.number ∙ sym h.number;
      size = at.size ∙ sym h.more.size;
      sides = at.sides ∙ sym h.sides;
      blocks = at.blocks ∙ sym h.more.one;
      last = at.last ∙ sym h.last;
    };
  };
}

same-byte : (a c : Image) (f g : File) (i : ℕ) → i < 28 → stays_of c g ≡ stays_of a f
    → slice_index g.slot.bytes (2 + i) ≡ slice_index f.slot.bytes (2 + i)
same-byte a c f g i lt same = sym (entry-byte g.slot.bytes i lt) ∙ ap (λ (s : Stays). slice_index s.entry i) same
    ∙ entry-byte f.slot.bytes i lt

-- where a file stays, what is kept of it is of it
kept-of : (a c : Image) (l m : Layout) (n k : ℕ) (f g : File) (v : RelFile) → IsFileOf a l n f v → IsLayout c m
    → slice_get m.files k ≡ Some g → stays_of c g ≡ stays_of a f → StaysOf a c f v
kept-of a c l m n k f g v of h at same = record {
  layout = m;
  place = k;
  file = g;
  of = record {
    layout = h;
    there = at;
    rel = ap is_rel_type (same-byte a c f g 0 (omega arith) same) ∙ of.rel;
    shows = record {
      sector = of.shows.sector ∙ sym (ap (λ (s : Stays). s.sector) same);
      number = of.shows.number ∙ sym (ap (λ (s : Stays). s.number) same);
      size = of.shows.size ∙ sym (same-byte a c f g 21 (omega arith) same);
      sides = of.shows.sides ∙ sym (ap (λ (s : Stays). s.sides) same);
      blocks = of.shows.blocks ∙ sym (ap (λ (s : Stays). length s.blocks) same);
      last = of.shows.last ∙ sym (ap (λ (s : Stays). s.last) same);
    };
  };
  same = same;
}

-- a value of a list is among those of a list with one more
more-get : {X : Type 0} (xs ys : List X) (x z : X) (n : ℕ) → slice_get (xs ++ ys) n ≡ Some z → (k : ℕ)
    × (slice_get (xs ++ x ∷ ys) k ≡ Some z)
more-get [] ys x z n at = (suc n, at)
more-get (y ∷ xs) ys x z zero at = (0, at)
more-get (y ∷ xs) ys x z (suc n) at = let (k, there) = more-get xs ys x z n at in (suc k, there)

some-same : (s t : Stays) → Some s ≡ Some t → s ≡ t
some-same s t e = cc

module _ (a c : Image) (l : Layout) (n : ℕ) (f : File) (v : RelFile) (of : IsFileOf a l n f v) where
  had : slice_get (map (stays_of a) l.files) n ≡ Some (stays_of a f)
  had = slice_get-map (stays_of a) l.files n ∙ ap (option_map (stays_of a)) of.there

  before-stays : HasFilesOf a l c → StaysOf a c f v
  before-stays was =
      let now : slice_get (map (stays_of c) l.files) n ≡ Some (stays_of c f) = slice_get-map (stays_of c) l.files n
      ∙ ap (option_map (stays_of c)) of.there in
      kept-of a c l l n n f f v of was.layout of.there (some-same (stays_of c f) (stays_of a f) (sym now
      ∙ ap (λ xs. slice_get xs n) was.files ∙ had))

  more-stays : (name : List ℕ) (L : ℕ) → HasFileMore a l name L c → StaysOf a c f v
  more-stays name L h =
      let (k, at) = more-get h.adds.before h.adds.after (stays_of c h.file) (stays_of a f) n
      (ap (λ xs. slice_get xs n) (sym h.adds.had) ∙ had) in
      let (g, there, same) = made-from (stays_of c) (slice_get h.layout.files k) (stays_of a f)
      (sym (slice_get-map (stays_of c) h.layout.files k) ∙ ap (λ xs. slice_get xs k) h.adds.has ∙ at) in
      kept-of a c l h.layout n k f g v of h.sound there same

  -- at each moment
  pub creating-stays : (name : List ℕ) (L : ℕ) → IsCreating a l name L c → StaysOf a c f v
  creating-stays name L (inl was, kept) = before-stays was
  creating-stays name L (inr more, kept) = more-stays name L more

-- nothing is written yet
creating-none : (a : Image) (l : Layout) (name : List ℕ) (L : ℕ) → IsLayout a l → IsCreating a l name L a
creating-none a l name L h = (inl (record { layout = h; files = refl; header = refl }), λ w. w)

module _ {D : Type 0} (S : History D) (d e : D) (quiet : WritesNothing S d e) (l : Layout) (name : List ℕ) (L : ℕ)
    (h : IsLayout (S.image d) l) where
  pub quiet-moments : Changes S d e (creation_writes l) (IsCreating (S.image d) l name L)
  quiet-moments = changes_weaker S d e 0 _ _ _ (omega arith) (λ c x. x)
      (no_write_change S d e _ quiet (creating-none (S.image d) l name L h))

  -- and then
  then-moments : (f : D) → Changes S e f (creation_writes l) (IsCreating (S.image e) l name L)
      → Changes S d f (creation_writes l) (IsCreating (S.image d) l name L)
  then-moments f writes =
      let P : Image → Type 0 = λ i. Changes S e f (creation_writes l) (IsCreating i l name L) in
      changes_then S d e f 0 (creation_writes l) (creation_writes l) _ (omega arith)
      (no_write_change S d e _ quiet (creating-none (S.image d) l name L h)) (subst P quiet.image writes)

-- what is kept of any file stays of it
changed-others : {D : Type 0} (S : History D) (d f : D) (m : ℕ) (l : Layout) (name : List ℕ) (L : ℕ)
    → Changes S d f m (IsCreating (S.image d) l name L) → (n : ℕ) (g : File) (v : RelFile)
    → IsFileOf (S.image d) l n g v → StaysOf (S.image d) (S.image f) g v
changed-others S d f m l name L writes n g v of = creating-stays (S.image d) (S.image f) l n g v of name L
    (at_end S d f _ writes.held)

-- a site is chosen, and then the file is written
pub made-then : {D : Type 0} (S : History D) (d e f : D) (name : List ℕ) (L : ℕ) (st : Site)
    → Chooses S d e name 2 (Ok st) → (r : Result (Unit {0}) DeviceFault)
    → ((l : Layout) → IsSite (S.image e) l 2 st → MakesFile S e f l name L st r) → (l : Layout) → IsLayout (S.image d) l
    → MakesFile S d f l name L st r
made-then S d e f name L st chooses r writes l h =
    let same = chooses.quiet.image in
    let made = writes l (subst (λ i. IsSite i l 2 st) (sym same) (chooses.ok l h)) in
    record {
      ok = subst (λ i. OnOk r (HasFileAt i l name L st (S.image f))) same made.ok;
      moments = then-moments S d e chooses.quiet l name L h f made.moments;
    }

-- and nothing else is said of it
pub creates-of : {D : Type 0} (S : History D) (d f : D) (name : List ℕ) (L : ℕ) (r : Result RelFile RelFault)
    → ((l : Layout) → IsLayout (S.image d) l → CreatesFile S d f l name L r) → Refuses S d f name 2 r
    → OnOk r (S.reads f ≤ S.reads d + 55) → Creates S d f name L r
creates-of S d f name L r layout refuses reads = record {
  layout = layout;
  refuses = refuses;
  reads = reads;
  others = λ v l n g of. changed-others S d f _ l name L (layout l of.layout).moments n g v of;
}

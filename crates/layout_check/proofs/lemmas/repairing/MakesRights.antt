-- Calls that put sectors right, one after another.
use Rattle.std.proofs.Common.{ℕ, ◌≡◌, ◌≤◌, ◌+◌, ◌++◌, List, [], ◌∷◌, Result, Ok, Err, length, take, drop, sym, ◌∙◌, ap, arith, refl, subst}
use Rattle.std.specs.Prelude.{Contains, Some, slice_get}
use Rattle.std.proofs.lemmas.List.{length-append, take-append-drop, take_all}
use Rattle.std.proofs.lemmas.List.Elements.{Contains-append_left, Contains-append_right}
use Rattle.std.proofs.lemmas.Result.{on_ok_weaker}
use Rattle.d64_image.proofs.Moments.{no_write_then, reads_no_write, weaker}
use Rattle.d64_image.specs.History.{Changes, History, OldOr, OnlyReads, WritesNothing}
use Rattle.d64_image.specs.Calls.{WritesSector}
use Rattle.d64_image.specs.Images.{Image, Sector, put, sector}
use Rattle.d64_image.specs.declared.place.Place.{Place}
use Rattle.disk_layout.proofs.lemmas.kept.Orders.{made_put, made_then, once-next, over_more, over_none}
use Rattle.disk_layout.proofs.lemmas.kept.Orders.{over_read, over_then, over_write}
use Rattle.disk_layout.proofs.lemmas.kept.OtherWrites.{write_changes}
use Rattle.disk_layout.proofs.lemmas.lists.Count.{places-few}
use Rattle.disk_layout.proofs.lemmas.lists.Lists.{take-get}
use Rattle.disk_layout.proofs.lemmas.lists.Once.{Contains-here, Contains-nil}
use Rattle.disk_layout.specs.Chain.{EachOnce}
use Rattle.disk_layout.specs.InOrder.{AreMade, WritesOther}
use Rattle.disk_layout.specs.Layout.{File, IsLayout, Layout}
use Rattle.disk_layout.specs.declared.faults.Fault.{Fault}
use Rattle.disk_layout.specs.declared.faults.Fault.TheVariants.{Device}
use Rattle.layout_check.proofs.lemmas.repairing.Rights.{files-once, sides-once}
use Rattle.layout_check.proofs.lemmas.repairing.SidesMade.{made-exact, made-layout, made-map, made-mended}
use Rattle.layout_check.proofs.lemmas.repairing.RightSides.{sides-apart, sides-next, sides-split}
use Rattle.layout_check.specs.Mended.{AreExactFor, KeepsLayouts, Mends, SameMap}
use Rattle.layout_check.specs.Mending.{MakesRight}
use Rattle.layout_check.specs.RepairOrder.{IsRight, sides_of}

module _ {D : Type 0} (S : History D) (l : Layout) where
  -- reads alone, at an error
  pub makes_none : (ps : List Place) (a b : D) (n : ℕ) (e : Fault) → OnlyReads S a b n
      → MakesRight {T = Unit {0}} S a b l ps (Err e)
  makes_none ps a b n e r = record {
    puts = record { over = over_none S (IsRight l) ps a b n r; made = tt };
    quiet = λ all. reads_no_write S a b n r;
    writes = omega (arith, r.writes);
  }

  -- and at Ok, where all are right
  pub makes_kept : (ps : List Place) (a b : D) (n : ℕ) → OnlyReads S a b n
      → ((p : Place) → Contains ps p → IsRight l p (sector (S.image a) p)) → MakesRight {T = Unit {0}} S a b l ps (Ok tt)
  makes_kept ps a b n r all = record {
    puts = record {
      over = over_none S (IsRight l) ps a b n r;
      made = record {
        right = λ p c. let P : Sector → Type 0 = IsRight l p in subst P (sym (stays p)) (all p c);
        kept = λ p right. stays p;
        rest = λ p out. stays p;
      };
    };
    quiet = λ all. reads_no_write S a b n r;
    writes = omega (arith, r.writes);
  }
    where
      stays : (p : Place) → sector (S.image b) p ≡ sector (S.image a) p
      stays p = ap (λ (i : Image). sector i p) r.image

  pub makes_start : (a b : D) (n : ℕ) → OnlyReads S a b n → MakesRight {T = Unit {0}} S a b l [] (Ok tt)
  makes_start a b n r = makes_kept [] a b n r (λ p c. absurd (Contains-nil p c))

  -- these, and then those
  pub makes_then : (ps qs : List Place) (a b c : D) (r : Result (Unit {0}) Fault) → EachOnce (ps ++ qs)
      → MakesRight {T = Unit {0}} S a b l ps (Ok tt) → MakesRight {T = Unit {0}} S b c l qs r → MakesRight {T = Unit {0}} S a c l (ps ++ qs) r
  makes_then ps qs a b c r once first second = record {
    puts = record {
      over = over_then S (IsRight l) ps qs a b c once first.puts.over first.puts.made second.puts.over;
      made = on_ok_weaker r (λ made. made_then (IsRight l) ps qs (S.image a) (S.image b) (S.image c) once
          first.puts.made made) second.puts.made;
    };
    quiet = λ all.
        let none = first.quiet (λ p d. all p (Contains-append_left ps qs p d)) in
        no_write_then S a b c none (second.quiet (λ p d. let P : Image → Type 0 = λ i. IsRight l p (sector i p) in
        subst P (sym none.image) (all p (Contains-append_right ps qs p d))));
    writes = omega (arith, first.writes, second.writes, length-append ps qs);
  }

  pub makes_read : (ps : List Place) (a b c : D) (n : ℕ) (r : Result (Unit {0}) Fault) → EachOnce ps
      → OnlyReads S a b n → MakesRight {T = Unit {0}} S b c l ps r → MakesRight {T = Unit {0}} S a c l ps r
  makes_read ps a b c n r once reads second = makes_then [] ps a b c r once (makes_start a b n reads) second

  -- the first k of these, and one more
  pub makes_next : (ps : List Place) (k : ℕ) (p : Place) (a b c : D) (r : Result (Unit {0}) Fault)
      → slice_get ps k ≡ Some p → EachOnce ps → MakesRight {T = Unit {0}} S a b l (take k ps) (Ok tt) → MakesRight {T = Unit {0}} S b c l (p ∷ []) r
      → MakesRight {T = Unit {0}} S a c l (take (k + 1) ps) r
  makes_next ps k p a b c r there once first second =
      let P : List Place → Type 0 = λ xs. MakesRight {T = Unit {0}} S a c l xs r in
      subst P (sym (take-get ps k p there)) (makes_then (take k ps) (p ∷ []) a b c r (once-next ps k p there once)
      first second)

  -- at an error no more has to be done
  pub makes_more : (ps qs all : List Place) (a b : D) (e : Fault) → ps ++ qs ≡ all
      → MakesRight {T = Unit {0}} S a b l ps (Err e) → MakesRight {T = Unit {0}} S a b l all (Err e)
  makes_more ps qs all a b e split h = let P : List Place → Type 0 = λ xs. MakesRight {T = Unit {0}} S a b l xs (Err e) in
      subst P split (record {
        puts = record { over = over_more S (IsRight l) ps qs a b h.puts.over; made = tt };
        quiet = λ right. h.quiet (λ p c. right p (Contains-append_left ps qs p c));
        writes = omega (arith, h.writes, length-append ps qs);
      })

  pub makes_first : (ps all : List Place) (k : ℕ) (a b : D) (e : Fault) → ps ≡ all
      → MakesRight {T = Unit {0}} S a b l (take k ps) (Err e) → MakesRight {T = Unit {0}} S a b l all (Err e)
  makes_first ps all k a b e same h = makes_more (take k ps) (drop k ps) all a b e (take-append-drop k ps ∙ same) h

  pub makes_all : (ps : List Place) (k : ℕ) (a b : D) (r : Result (Unit {0}) Fault) → length ps ≤ k
      → MakesRight {T = Unit {0}} S a b l (take k ps) r → MakesRight {T = Unit {0}} S a b l ps r
  makes_all ps k a b r all h = let P : List Place → Type 0 = λ xs. MakesRight {T = Unit {0}} S a b l xs r in
      subst P (take_all k ps all) h

  -- a read, and then a write if the right bytes aren't those that the sector has
  pub makes_one : (p : Place) (bytes had : Sector) (a b c : D) (r : Result (Unit {0}) Fault) → IsRight l p bytes
      → (IsRight l p had → bytes ≡ had) → OnlyReads S a b 1 → had ≡ sector (S.image a) p
      → WritesSector S b c p bytes (Device p) r → WritesOther S b c p → (had ≡ bytes → WritesNothing S b c)
      → MakesRight {T = Unit {0}} S a c l (p ∷ []) r
  makes_one p bytes had a b c r right only reads read write once quiet = record {
    puts = record {
      over = over_read S (IsRight l) (p ∷ []) a b c 1 (Contains-nil p, tt) reads (over_write S (IsRight l) p b c bytes
          changes.held right (let P : Image → Type 0 = λ i. IsRight l p (sector i p) → bytes ≡ sector i p in
          subst P (sym reads.image) kept) once);
      made = on_ok_weaker r (λ done. let P : Image → Type 0 = AreMade (IsRight l) (p ∷ []) (S.image a) in
          subst P (sym (done ∙ ap (λ (i : Image). put i p bytes) reads.image))
          (made_put (IsRight l) p (S.image a) bytes (S.whole a).size right kept)) write.ok;
    };
    quiet = λ all. no_write_then S a b c (reads_no_write S a b 1 reads)
        (quiet (read ∙ sym (kept (all p (Contains-here p [])))));
    writes = omega (arith, reads.writes, changes.writes);
  }
    where
      kept : IsRight l p (sector (S.image a) p) → bytes ≡ sector (S.image a) p
      kept = let P : Sector → Type 0 = λ x. IsRight l p x → bytes ≡ x in subst P read only

      changes : Changes S b c 1 (OldOr (S.image b) (put (S.image b) p bytes))
      changes = write_changes S b c p bytes (Device p) r write

-- the side sectors of files
module _ {D : Type 0} (S : History D) (a : D) (l : Layout) (is : IsLayout (S.image a) l) where
  pub makes_file : (n : ℕ) (f : File) (b c : D) (r : Result (Unit {0}) Fault)
      → slice_get l.files n ≡ Some f → MakesRight {T = Unit {0}} S a b l (sides_of (take n l.files)) (Ok tt)
      → MakesRight {T = Unit {0}} S b c l f.sides r → MakesRight {T = Unit {0}} S a c l (sides_of (take (n + 1) l.files)) r
  makes_file n f b c r there first second =
      let P : List Place → Type 0 = λ xs. MakesRight {T = Unit {0}} S a c l xs r in
      subst P (sym (sides-next l.files n f there)) (makes_then S l (sides_of (take n l.files)) f.sides a b c r
      (sides-apart (S.image a) l n f is there) first second)

  pub makes_files : (n : ℕ) (b : D) (e : Fault)
      → MakesRight {T = Unit {0}} S a b l (sides_of (take n l.files)) (Err e)
      → MakesRight {T = Unit {0}} S a b l (sides_of l.files) (Err e)
  makes_files n b e h = makes_more S l (sides_of (take n l.files)) (sides_of (drop n l.files)) (sides_of l.files)
      a b e (sides-split l.files n) h

  -- so far the layout is the same
  pub makes_layout : (n : ℕ) (b : D) → MakesRight {T = Unit {0}} S a b l (sides_of (take n l.files)) (Ok tt)
      → IsLayout (S.image b) l
  makes_layout n b h = made-layout (S.image a) l is (sides_of (take n l.files)) (λ p c. let P : List Place
      → Type 0 = λ xs. Contains xs p in
      subst P (sides-split l.files n) (Contains-append_left (sides_of (take n l.files)) (sides_of (drop n l.files)) p
      c)) (S.image b) h.puts.made

-- side sectors put right mend the disk
pub sides_mend : {D : Type 0} (S : History D) (a b : D) (r : Result (Unit {0}) Fault)
    → ((l : Layout) → IsLayout (S.image a) l → MakesRight {T = Unit {0}} S a b l (sides_of l.files) r) → Mends S a b 864
sides_mend S a b r makes i m h =
    let l = h.layout in
    let right = makes l h.sound in
    record {
      held = weaker S a b _ _ (λ c way. made-mended (S.image a) l h.sound way.done (λ p d. let P : List Place
          → Type 0 = λ xs. Contains xs p in
          subst P (sym way.split) (Contains-append_left way.done way.left p d)) c way.made i m h refl) right.puts.over.held;
      writes = omega (
        arith,
        right.writes,
        places-few (sides_of l.files) (sides-once l.files
            (files-once (S.image a) l h.sound)),
      );
    }

-- what all of them put right leave
module _ {D : Type 0} (S : History D) (a b : D)
    (makes : (l : Layout) → IsLayout (S.image a) l → MakesRight {T = Unit {0}} S a b l (sides_of l.files) (Ok tt)) where
  pub sides_layouts : KeepsLayouts (S.image a) (S.image b)
  sides_layouts l is = made-layout (S.image a) l is (sides_of l.files) (λ p c. c) (S.image b) (makes l is).puts.made

  pub sides_map : (l : Layout) → IsLayout (S.image a) l → SameMap (S.image a) (S.image b)
  sides_map l is = made-map (S.image a) l is (sides_of l.files) (λ p c. c) (S.image b) (makes l is).puts.made

  pub sides_exact : AreExactFor (S.image a) (S.image b)
  sides_exact s bs ss h = made-exact (S.image a) h.layout h.sound (S.image b) (makes h.layout h.sound).puts.made s bs ss h

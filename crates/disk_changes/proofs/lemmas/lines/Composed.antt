-- Lines stored one after another: what is left, held, printed and told of all of them.
use Rattle.std.proofs.Common.{◌≡◌, ℕ, ◌*◌, List, [], ◌∷◌, ◌++◌, Option, inl, inr, Result, Ok, Err, length, refl, subst, sym, ap, ap₂}
use Rattle.std.proofs.Common.{◌∙◌, arith}
use Rattle.std.specs.Prelude.{OnOk}
use Rattle.std.specs.Io.KnownBytes.{Appends}
use Rattle.std.proofs.KnownBytes.{Appends-nil, Appends-trans}
use Rattle.std.proofs.lemmas.Result.{IfErr-weaker}
use Rattle.std.proofs.lemmas.List.{append_assoc, length-append}
use Rattle.d64_image.proofs.Moments.{at_end, changes_then, changes_weaker, no_change, no_write, no_write_then, start}
use Rattle.d64_image.proofs.Moments.{then}
use Rattle.d64_image.specs.History.{History}
use Rattle.d64_image.specs.Images.{Image}
use Rattle.disk_layout.specs.Layout.{File, Layout, record_length}
use Rattle.disk_layout.specs.Records.{records}
use Rattle.disk_layout.specs.Whole.{IsWhole}
use Rattle.rel_records.proofs.lemmas.Usable.{as-clean-then}
use Rattle.rel_records.proofs.lemmas.Kept.{has_same, keeps_same, leaves_leaves, leaves_then, places-stay}
use Rattle.rel_records.proofs.lemmas.growth.Grows.{had-of, count-is}
use Rattle.rel_records.proofs.lemmas.writing.Grown.{size-kept}
use Rattle.rel_records.specs.File.{IsFileOf, length_of, records_in}
use Rattle.rel_records.specs.Others.{LeavesRecords}
use Rattle.rel_records.specs.declared.rel_file.RelFile.{RelFile}
use Rattle.disk_changes.proofs.lemmas.lines.Folds.{changed-append, long-stored, part-behind, part-front, so-behind, so-front}
use Rattle.disk_changes.proofs.lemmas.lines.Folds.{so-stored, stored-append}
use Rattle.disk_changes.proofs.lemmas.mended.Mendings.{tells-after}
use Rattle.disk_changes.specs.lines.Stores.{AreSo, IsPartStored, NewRecord, changed_text, stored}
use Rattle.disk_changes.specs.lines.Storing.{IsStopped, IsStoppedAt, IsStoringOver, StoresLines}
use Rattle.command_faults.specs.declared.faults.CommandFault.{CommandFault}

-- nothing is done
pub leaves-same : (img : Image) (l : Layout) (n : ℕ) (f : File) (v : RelFile) → IsFileOf img l n f v
    → LeavesRecords img img l n (records img f) v
leaves-same img l n f v of = record {
  layout = l;
  clean = λ strays clean. clean;
  others = keeps_same img l n;
  file = f;
  of = of;
  records = refl;
  places = places-stay img l n f (records img f) of.there (omega arith);
}

-- as many records are there as before
pub had-kept : (a b : Image) (l : Layout) (n : ℕ) (f : File) (v w : RelFile) (L : ℕ) (xs : List NewRecord)
    → IsFileOf a l n f v
    → LeavesRecords a b l n (stored L xs (records a f)) w → records_in w ≡ records_in v
had-kept a b l n f v w L xs of h =
    had-of b h.layout n h.file w h.of
    ∙ sym (count-is b h.file)
    ∙ ap (λ (rs : List (List ℕ)). length rs) h.records
    ∙ long-stored L xs (records a f)
    ∙ count-is a f
    ∙ sym (had-of a l n f v of)

-- storing that stopped at one of these stopped at one of more
stopped-longer : (old new : Image) (before after : Option (List ℕ)) (l : Layout) (n L : ℕ) (xs ys : List NewRecord)
    (rs : List (List ℕ)) (fault : CommandFault) → IsStopped old new before after l n L xs rs fault
    → IsStopped old new before after l n L (xs ++ ys) rs fault
stopped-longer old new before after l n L xs ys rs fault s = record {
  front = s.front;
  one = s.one;
  back = s.back ++ ys;
  split = ap (λ (zs : List NewRecord). zs ++ ys) s.split ∙ append_assoc s.front (s.one ∷ s.back) ys;
  printed = s.printed;
  appends = s.appends;
  stopped = s.stopped;
}

-- and it did behind others that were stored
pub stopped-behind : (a b c : Image) (o p q : Option (List ℕ)) (l : Layout) (n L : ℕ) (xs ys : List NewRecord)
    (rs : List (List ℕ)) (w : RelFile) (left : LeavesRecords a b l n (stored L xs rs) w)
    → Appends o p (changed_text L xs rs) → (fault : CommandFault)
    → IsStopped b c p q left.layout n L ys (stored L xs rs) fault → IsStopped a c o q l n L (xs ++ ys) rs fault
stopped-behind a b c o p q l n L xs ys rs w left first fault s = record {
  front = xs ++ s.front;
  one = s.one;
  back = s.back;
  split = ap (λ (zs : List NewRecord). xs ++ zs) s.split ∙ sym (append_assoc xs s.front (s.one ∷ s.back));
  printed = s.printed;
  appends = subst (Appends o q)
      (sym (append_assoc (changed_text L xs rs) (changed_text L s.front (stored L xs rs)) s.printed)
      ∙ sym (ap (λ (t : List ℕ). t ++ s.printed) (changed-append L xs s.front rs)))
      (Appends-trans o p q (changed_text L xs rs) (changed_text L s.front (stored L xs rs) ++ s.printed) first s.appends);
  stopped = subst (λ (ts : List (List ℕ)). IsStoppedAt a c l n L s.one ts s.printed fault)
      (sym (stored-append L xs s.front rs)) (elim s.stopped [
        | inl (is, changed, has, line) ↦ inl (is, changed, leaves_then a b c l n (stored L xs rs) _ w left has, line)
        | inr (is, (ts, part, has), none) ↦ inr (
          is,
          (ts, part, leaves_then a b c l n (stored L xs rs) ts w left has),
          none,
        )
      ]);
}

module _ {D W : Type 0} (S : History D) (contents : W → Option (List ℕ)) (l : Layout) (n : ℕ) (f : File) where
  pub none-stored : (a : D) (o : W) (v : RelFile) → IsFileOf (S.image a) l n f v
      → StoresLines S contents a a o o l n f v v [] (Ok tt)
  none-stored a o v of = record {
    ok = (leaves-same (S.image a) l n f v of, refl, Appends-nil (contents o));
    moments = no_change S a _ (records (S.image a) f, refl, has_same (S.image a) l n f v of);
    whole = λ h. start S a IsWhole h;
    quiet = λ so. no_write S a;
    clean = tt;
    stopped = tt;
    told = refl;
  }

  -- a beginning of more lines, that ends with a fault
  pub stored-longer : (a c : D) (o p : W) (v w : RelFile) (xs ys : List NewRecord) (fault : CommandFault)
      → StoresLines S contents a c o p l n f v w xs (Err fault)
      → StoresLines S contents a c o p l n f v w (xs ++ ys) (Err fault)
  stored-longer a c o p v w xs ys fault s = record {
    ok = tt;
    moments = changes_weaker S a c (2 * length xs) (2 * length (xs ++ ys)) _ _ (omega (arith, length-append xs ys))
        (λ i (ts, part, has). (ts, part-front (record_length f.slot) xs ys (records (S.image a) f) ts part, has))
        s.moments;
    whole = s.whole;
    quiet = λ so. s.quiet (so-front (record_length f.slot) (records (S.image a) f) xs ys so);
    clean = s.clean;
    stopped = stopped-longer _ _ _ _ l n (record_length f.slot) xs ys (records (S.image a) f) fault s.stopped;
    told = s.told;
  }

  module _ (a b c : D) (o p q : W) (v w x : RelFile) (xs ys : List NewRecord) (of : IsFileOf (S.image a) l n f v)
      (first : StoresLines S contents a b o p l n f v w xs (Ok tt)) where
    -- the file as the first lines leave it
    abbrev left : LeavesRecords (S.image a) (S.image b) l n (stored (record_length f.slot) xs (records (S.image a) f)) w
    left = first.ok.0

    pub same-length : record_length left.file.slot ≡ record_length f.slot
    same-length = size-kept (S.image a) (S.image b) l left.layout n n f left.file v w of left.of first.ok.1

    both-stored : stored (record_length left.file.slot) ys (records (S.image b) left.file) ≡ stored
        (record_length f.slot) (xs ++ ys) (records (S.image a) f)
    both-stored =
        ap₂ (λ (L : ℕ) (rs : List (List ℕ)). stored L ys rs) same-length left.records
        ∙ sym (stored-append (record_length f.slot) xs ys (records (S.image a) f))

    both-text : changed_text (record_length f.slot) xs (records (S.image a) f) ++ changed_text
        (record_length left.file.slot) ys (records (S.image b) left.file)
        ≡ changed_text (record_length f.slot) (xs ++ ys) (records (S.image a) f)
    both-text =
        ap (λ (t : List ℕ). changed_text (record_length f.slot) xs (records (S.image a) f) ++ t)
        (ap₂ (λ (L : ℕ) (rs : List (List ℕ)). changed_text L ys rs) same-length left.records)
        ∙ sym (changed-append (record_length f.slot) xs ys (records (S.image a) f))

    module _ (r : Result (Unit {0}) CommandFault)
        (second : StoresLines S contents b c p q left.layout n left.file w x ys r) where
      behind : (i : Image) → IsStoringOver (S.image b) left.layout n (record_length left.file.slot) ys
          (records (S.image b) left.file) i
          → IsStoringOver (S.image a) l n (record_length f.slot) (xs ++ ys) (records (S.image a) f) i
      behind i (ts, part, has) = (
        ts,
        part-behind (record_length f.slot) xs ys (records (S.image a) f) ts
            (subst (λ (rs : List (List ℕ)). IsPartStored (record_length f.slot) ys rs ts) left.records
            (subst (λ (L : ℕ). IsPartStored L ys (records (S.image b) left.file) ts) same-length part)),
        leaves_then (S.image a) (S.image b) i l n _ ts w left has,
      )

      both-so : AreSo (record_length f.slot) (records (S.image a) f) (xs ++ ys)
          → AreSo (record_length left.file.slot) (records (S.image b) left.file) ys
      both-so so =
          let same = left.records ∙ so-stored (record_length f.slot) (records (S.image a) f) xs
          (so-front (record_length f.slot) (records (S.image a) f) xs ys so) in
          subst (λ (L : ℕ). AreSo L (records (S.image b) left.file) ys) (sym same-length)
          (subst (λ (rs : List (List ℕ)). AreSo (record_length f.slot) rs ys) (sym same)
          (so-behind (record_length f.slot) (records (S.image a) f) xs ys so))

      then-stopped : (fault : CommandFault)
          → IsStopped (S.image b) (S.image c) (contents p) (contents q) left.layout n (record_length left.file.slot) ys
          (records (S.image b) left.file) fault
          → IsStopped (S.image a) (S.image c) (contents o) (contents q) l n (record_length f.slot) (xs ++ ys)
          (records (S.image a) f) fault
      then-stopped fault s = stopped-behind (S.image a) (S.image b) (S.image c) (contents o) (contents p) (contents q) l n
          (record_length f.slot) xs ys (records (S.image a) f) w left first.ok.2 fault
          (subst (λ (rs : List (List ℕ)). IsStopped (S.image b) (S.image c) (contents p) (contents q) left.layout n
          (record_length f.slot) ys rs fault) left.records
          (subst (λ (L : ℕ). IsStopped (S.image b) (S.image c) (contents p) (contents q) left.layout n L ys
          (records (S.image b) left.file) fault) same-length s))

      pub stored-then : StoresLines S contents a c o q l n f v x (xs ++ ys) r
      stored-then = record {
        ok = both r second.ok;
        moments = changes_then S a b c (2 * length xs) (2 * length ys) (2 * length (xs ++ ys)) _
            (omega (arith, length-append xs ys))
            (changes_weaker S a b (2 * length xs) (2 * length xs) _ _ (omega arith)
            (λ i (ts, part, has). (ts, part-front (record_length f.slot) xs ys (records (S.image a) f) ts part, has))
            first.moments)
            (changes_weaker S b c (2 * length ys) (2 * length ys) _ _ (omega arith) behind second.moments);
        whole = λ h. then S a b c IsWhole (first.whole h) (second.whole (at_end S a b IsWhole (first.whole h)));
        quiet = λ so. no_write_then S a b c
            (first.quiet (so-front (record_length f.slot) (records (S.image a) f) xs ys so))
            (second.quiet (both-so so));
        clean = IfErr-weaker r _ _ (λ fault stays is. as-clean-then (S.image a) (S.image b) (S.image c) l left.layout
            left.clean (stays is)) second.clean;
        stopped = IfErr-weaker r _ _ then-stopped second.stopped;
        told = tells-after S a b c r first.told second.told;
      }
        where
          both : (r : Result (Unit {0}) CommandFault)
              → OnOk r (LeavesRecords (S.image b) (S.image c) left.layout n (stored (record_length left.file.slot) ys
              (records (S.image b) left.file)) x
              × (length_of x ≡ length_of w)
              × Appends (contents p) (contents q) (changed_text (record_length left.file.slot) ys
              (records (S.image b) left.file)))
              → OnOk r (LeavesRecords (S.image a) (S.image c) l n (stored (record_length f.slot) (xs ++ ys)
              (records (S.image a) f)) x
              × (length_of x ≡ length_of v)
              × Appends (contents o) (contents q) (changed_text (record_length f.slot) (xs ++ ys)
              (records (S.image a) f)))
          both (Err e) done = tt
          both (Ok t) done = (
            subst (λ (rs : List (List ℕ)). LeavesRecords (S.image a) (S.image c) l n rs x) both-stored
                (leaves_leaves (S.image a) (S.image b) (S.image c) l n _ _ w x left done.0),
            done.1 ∙ first.ok.1,
            subst (Appends (contents o) (contents q)) both-text (Appends-trans _ _ _ _ _ first.ok.2 done.2),
          )

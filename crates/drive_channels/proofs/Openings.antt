-- An opening as a whole: the check, the look for the file, its creation.
use Rattle.std.proofs.Common.{ℕ, ◌≡◌, ◌≢◌, ◌≤◌, ◌<◌, ◌+◌, ◌⊎◌, inl, inr, Bool, true, false, MatchOption, List, Option}
use Rattle.std.proofs.Common.{None, Some, IfOk, IsSome, Result, Ok, Err, OnOk, sym, ◌∙◌, ap, ap₂, subst, refl, arith}
use Rattle.std.proofs.lemmas.Option.{none-some}
use Rattle.d64_image.proofs.Moments.{changes_then, changes_weaker, reads_change, reads_then, reads_weaker}
use Rattle.std.specs.Result.{IsErrAnd}
use Rattle.d64_image.specs.History.{Changes, Failed, History, OnlyReads, TellsFailure}
use Rattle.d64_image.specs.Images.{Image}
use Rattle.disk_layout.specs.Clean.{IsClean}
use Rattle.disk_layout.specs.Layout.{IsLayout, Layout}
use Rattle.rel_records.specs.creation.Made.{IsCreating, creation_writes}
use Rattle.drive_channels.specs.Files.{HasFile}
use Rattle.drive_channels.proofs.Steady.{found-last}
use Rattle.drive_channels.proofs.Wishes.{wish-one}
use Rattle.drive_channels.specs.Inside.{HasLooked, channel_of, shown}
use Rattle.drive_channels.specs.Moments.{IsCreatingFor, IsCreatingFrom, IsOpenedBy, IsOpenedFor}
use Rattle.drive_channels.specs.Spelling.{IsName, IsWish, Wish}
use Rattle.drive_channels.specs.State.{Channel, View}
use Rattle.drive_channels.specs.Tables.{Opens, OpensFile, Tells, when◌then◌otherwise◌}
use Rattle.drive_channels.specs.declared.open_file.OpenFile.{OpenFile}
use Rattle.drive_channels.specs.declared.open_files.OpenFiles.{OpenFiles}
use Rattle.drive_channels.specs.declared.status.Status.{Status}
use Rattle.drive_channels.specs.declared.status.Status.TheVariants as statuses

-- a drive with no channel after a check shows the same, whatever files are remembered
pub same-shown : (img img' : Image) (k k' : OpenFiles) (s : Status) → img' ≡ img → channel_of k.last ≡ None
    → k.checked ≡ true → channel_of k'.last ≡ None → k'.checked ≡ true
    → shown img' k' s ≡ shown img k s
same-shown img img' k k' s same closed checked closed' checked' =
    subst (λ (i : Image). shown i k' s ≡ shown img k s) (sym same)
    (ap₂ (λ (c : Option Channel) (b : Bool). record { image = img; channel = c; status = s; checked = b })
    (closed' ∙ sym closed) (checked' ∙ sym checked))

module _ {D E : Type 0} (S : History D) (a b c : D) where
  -- a call that reads some, and then one that reads some where it is done
  sum : (r : Result Status E) (n k m : ℕ) → k + n ≤ m → S.reads b ≤ S.reads a + k
      → OnOk r (S.reads c ≤ S.reads b + n) → OnOk r (S.reads c ≤ S.reads a + m)
  sum (Ok st) n k m le first more = omega (arith, le, first, more)
  sum (Err e) n k m le first more = tt

  -- the file is made after it was looked for
  pub opened-made : (name : List ℕ) (length : Option ℕ) (l : ℕ) (after : Option Channel) (result : Result Status E)
      → OnlyReads S a b 702 → length ≡ Some l → ¬ (HasFile (S.image a) name)
      → IfOk result (λ st. st ≢ statuses.Ok → OnlyReads S b c 55) → IfOk result (λ st. st ≡ statuses.Ok → IsSome after)
      → OnOk result (S.reads c ≤ S.reads b + 55)
      → ((m : Layout) → IsLayout (S.image b) m → Changes S b c (creation_writes m) (IsCreating (S.image b) m name l))
      → IsOpenedFor S a c 702 (record { name = name; length = length }) after result
  opened-made name length l after result reads given missing refused opened few moments = record {
    plain = λ none. absurd (none-some l (sym none ∙ given));
    there = λ has. absurd (missing has);
    refused = by result refused opened;
    reads = sum result 55 702 757 (omega arith) reads.reads few;
    moments = λ m is. changes_then S a b c 0 (creation_writes m) (creation_writes m) (Held m) (omega arith)
        (reads_change S a b 702 (Held m) reads (inl refl))
        (changes_weaker S b c (creation_writes m) (creation_writes m) _ (Held m) (omega arith)
        (λ i x. inr
        (record {
          length = l;
          given = given;
          creating = subst (λ (j : Image). IsCreating j m name l i) reads.image x;
        }))
        (moments m (subst (λ (j : Image). IsLayout j m) (sym reads.image) is)));
  }
    where
      Held : Layout → Image → Type 0
      Held m i = (i ≡ S.image a) ⊎ IsCreatingFor (S.image a) m (record { name = name; length = length }) i

      not-open : IsSome after → after ≡ None → ⊥
      not-open some none = subst (λ (o : Option Channel). IsSome o → ⊥) (sym none) (λ h. cc) some

      by : (r : Result Status E) → IfOk r (λ st. st ≢ statuses.Ok → OnlyReads S b c 55)
          → IfOk r (λ st. st ≡ statuses.Ok → IsSome after) → OnOk r (after ≡ None → OnlyReads S a c 757)
      by (Ok st) refused opened = λ none. reads_then S a b c 702 55 757 (omega arith) reads
          (refused (λ is. not-open (opened is) none))
      by (Err e) refused opened = tt

  -- what is opened after the check
  pub opened-by : (text : List ℕ) (w : Wish) (before after : Option Channel) (result : Result Status E)
      → OnlyReads S a b 2115 → IsClean (S.image a) → IsWish text w → ((v : Wish) → IsWish text v → v ≡ w)
      → before ≡ None → IsOpenedFor S b c 702 w after result → IsOpenedBy S a c text before after result
  opened-by text w before after result reads clean is one closed opened = record {
    plain = λ none. reads_then S a b c 2115 702 2817 (omega arith) reads (opened.plain (none w is));
    there = λ v asked has. reads_then S a b c 2115 702 2817 (omega arith) reads
        (opened.there
        (subst (λ (x : Wish). HasFile (S.image b) x.name) (one v asked)
        (subst (λ (i : Image). HasFile i v.name) (sym reads.image) has)));
    refused = by result opened.refused;
    reads = sum result 757 2115 2872 (omega arith) reads.reads opened.reads;
    unclean = λ other. absurd (other clean);
    moments = λ m l. changes_then S a b c 0 (creation_writes m) (creation_writes m) (IsCreatingFrom (S.image a) m text)
        (omega arith)
        (reads_change S a b 2115 (IsCreatingFrom (S.image a) m text) reads (inl refl))
        (changes_weaker S b c (creation_writes m) (creation_writes m) _ (IsCreatingFrom (S.image a) m text)
        (omega arith) (held m)
        (opened.moments m (subst (λ (j : Image). IsLayout j m) (sym reads.image) l)));
  }
    where
      held : (m : Layout) (i : Image) → (i ≡ S.image b) ⊎ IsCreatingFor (S.image b) m w i
          → IsCreatingFrom (S.image a) m text i
      held m i h = elim h [
        | inl same ↦ inl (same ∙ reads.image)
        | inr x ↦ inr (w, is, subst (λ (j : Image). IsCreatingFor j m w i) reads.image x)
      ]

      by : (r : Result Status E) → OnOk r (after ≡ None → OnlyReads S b c 757)
          → OnOk r (after ≡ before → OnlyReads S a c 2872)
      by (Ok st) h = λ same. reads_then S a b c 2115 757 2872 (omega arith) reads (h (same ∙ closed))
      by (Err e) h = tt

-- what was only read
done-reads : {D E : Type 0} (S : History D) (a b : D) (n m : ℕ) (r : Result Status E) → n ≤ m → OnlyReads S a b n
    → OnOk r (S.reads b ≤ S.reads a + m)
done-reads S a b n m (Ok st) le reads = omega (arith, le, reads.reads)
done-reads S a b n m (Err e) le reads = tt

-- nothing but reads
pub read-by : {D E : Type 0} (S : History D) (a b : D) (n : ℕ) (text : List ℕ) (before after : Option Channel)
    (result : Result Status E) → n ≤ 2115 → OnlyReads S a b n
    → IsOpenedBy S a b text before after result
read-by {D} {E} S a b n text before after result few reads = record {
  plain = λ _. reads_weaker S a b n 2817 (omega (arith, few)) reads;
  there = λ _ _ _. reads_weaker S a b n 2817 (omega (arith, few)) reads;
  refused = by result;
  reads = done-reads S a b n 2872 result (omega (arith, few)) reads;
  unclean = λ _. reads_weaker S a b n 2115 few reads;
  moments = λ m _. changes_weaker S a b 0 (creation_writes m) _ _ (omega arith) (λ i h. h)
      (reads_change S a b n (IsCreatingFrom (S.image a) m text) reads (inl refl));
}
  where
    by : (r : Result Status E) → OnOk r (after ≡ before → OnlyReads S a b 2872)
    by (Ok st) = λ _. reads_weaker S a b n 2872 (omega (arith, few)) reads
    by (Err e) = tt

-- an opening that only looked for the file
pub read-for : {D E : Type 0} (S : History D) (a b : D) (w : Wish) (after : Option Channel) (result : Result Status E)
    → OnlyReads S a b 702 → IsOpenedFor S a b 702 w after result
read-for {D} {E} S a b w after result reads = record {
  plain = λ _. reads;
  there = λ _. reads;
  refused = by result;
  reads = done-reads S a b 702 757 result (omega arith) reads;
  moments = λ m _. changes_weaker S a b 0 (creation_writes m) _ _ (omega arith) (λ i h. h)
      (reads_change S a b 702 (λ i. (i ≡ S.image a) ⊎ IsCreatingFor (S.image a) m w i) reads (inl refl));
}
  where
    by : (r : Result Status E) → OnOk r (after ≡ None → OnlyReads S a b 757)
    by (Ok st) = λ _. reads_weaker S a b 702 757 (omega arith) reads
    by (Err e) = tt

-- an answer that is passed on tells of the device what the call told
pub tells-failed : {D T E : Type 0} (S : History D) (a b : D) (r : Result T E) (Q : E → Type 0) → IsErrAnd r Q
    → Failed S a b → TellsFailure S a b r
tells-failed S a b (Ok x) Q h f = absurd h
tells-failed S a b (Err e) Q h f = f

-- no channel is open
pub closed-of : (o : Option Channel) (b : Bool) → MatchOption o (b ≡ false) (λ c. b ≡ true) → b ≡ false → o ≡ None
closed-of None b told off = refl
closed-of (Some c) b told off = absurd (both b told off)
  where
    both : (b : Bool) → b ≡ true → b ≡ false → ⊥
    both b x y = cc

-- one that is open is there
pub open-of : (o : Option Channel) (b : Bool) → MatchOption o (b ≡ false) (λ c. b ≡ true) → b ≡ true → IsSome o
open-of None b told on = absurd (both b told on)
  where
    both : (b : Bool) → b ≡ false → b ≡ true → ⊥
    both b x y = cc
open-of (Some c) b told on = refl

-- the channel may be opened
free : (number : ℕ) (o : Option Channel) → 2 ≤ number → number ≤ 14 → o ≡ None
    → (number < 2) ⊎ ((14 < number) ⊎ IsSome o) → ⊥
free number o low high closed h = elim h [
  | inl lt ↦ omega (arith, lt, low)
  | inr (inl gt) ↦ omega (arith, gt, high)
  | inr (inr some) ↦ subst (λ (o : Option Channel). IsSome o → ⊥) (sym closed) (λ h. cc) some
]

-- a call that comes past the first two rows
pub past : (x : View) (number : ℕ) (text : List ℕ) (y : View) (w : Wish) → 2 ≤ number → number ≤ 14 → x.channel ≡ None
    → IsWish text w
    → (when (x.checked ≡ false)
    × ¬ (IsClean x.image) then Tells x statuses.DirError y otherwise
    ((w : Wish) → IsWish text w → OpensFile (record x { checked = true }) number w y))
    → Opens x number text y
past x number text y w low high closed is rest = inr
    (free number x.channel low high closed, inr ((λ none. none (w, is)), rest))

-- a call with a text that asks for no file
pub unspelled : (x : View) (number : ℕ) (text : List ℕ) (y : View) → 2 ≤ number → number ≤ 14 → x.channel ≡ None
    → ((w : Wish) → ¬ (IsWish text w)) → Tells x statuses.SyntaxError y → Opens x number text y
unspelled x number text y low high closed none tells = inr
    (free number x.channel low high closed, inl ((λ asked. none asked.0 asked.1), tells))

-- a check has passed
pub checked-shown : (img img' : Image) (k k' : OpenFiles) (s : Status) → img' ≡ img → k'.last ≡ k.last → k'.checked ≡ true
    → shown img' k' s ≡ record (shown img k s) { checked = true }
checked-shown img img' k k' s same last checked =
    subst (λ (i : Image). shown i k' s ≡ record (shown img k s) { checked = true }) (sym same)
    (ap₂ (λ (o : Option OpenFile) (b : Bool). record { image = img; channel = channel_of o; status = s; checked = b })
    last checked)

-- the name of a file that is remembered is opened without a look at the disk
pub recalled : (img : Image) (k k' : OpenFiles) (number : ℕ) (text : List ℕ) (s : Status) (y : View) → 2 ≤ number
    → number ≤ 14 → channel_of k.last ≡ None → k'.checked ≡ k.checked
    → HasLooked img text k' true → OpensFile (shown img k' s) number (record { name = text; length = None }) y
    → Opens (shown img k s) number text y
recalled img k k' number text s y low high closed same looked row = past (shown img k s) number text y asked low high
    closed is (inr (
      (λ h. h.1 (looked.known.remembered looked.checked).clean),
      (λ w v. subst (λ (w : Wish). OpensFile (record (shown img k s) { checked = true }) number w y)
          (wish-one text asked w is v)
          (subst (λ (x : View). OpensFile x number asked y)
          (ap (λ (c : Option Channel). record { image = img; channel = c; status = s; checked = true })
          (looked.closed ∙ sym closed))
          (subst (λ (b : Bool). OpensFile (record {
            image = img;
            channel = channel_of k'.last;
            status = s;
            checked = b;
          })
          number asked y) looked.checked row))),
    ))
  where
    asked : Wish
    asked = record { name = text; length = None }

    is : IsWish text asked
    is = let f = looked.found refl in (subst IsName f.2 (found-last img k' f.0 looked.known f.1).named, refl)

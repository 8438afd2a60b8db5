-- The rows of an opening, once the disk is seen to be clean.
use Rattle.std.proofs.Common.{ℕ, ◌≡◌, ◌≤◌, inl, inr, Bool, true, false, List, Option, None, Some, IfSome, IsNone, sym}
use Rattle.std.proofs.Common.{◌∙◌, ap, ap₂, subst, refl, arith}
use Rattle.std.proofs.lemmas.Option.{same_Some}
use Rattle.d64_image.specs.Images.{Image}
use Rattle.disk_layout.proofs.lemmas.layouts.Layouts.{IsLayout-one}
use Rattle.disk_layout.proofs.lemmas.layouts.Uniques.{IsFirst-one}
use Rattle.disk_layout.specs.Clean.{IsCleanLayout}
use Rattle.disk_layout.specs.Layout.{File, IsLayout, Layout, record_length}
use Rattle.disk_layout.specs.Rest.{IsFirst}
use Rattle.rel_records.proofs.lemmas.Usable.{stays-clean}
use Rattle.rel_records.specs.File.{entry_of, length_of}
use Rattle.rel_records.specs.creation.Made.{IsMade, IsTakenName}
use Rattle.rel_records.specs.declared.rel_file.RelFile.{RelFile}
use Rattle.drive_channels.proofs.Finds.{found-file, found-named, found-new}
use Rattle.drive_channels.proofs.Made.{first-made}
use Rattle.drive_channels.proofs.Steady.{found-last}
use Rattle.drive_channels.specs.Files.{HasEntry, HasFile, HasOther, IsNamedFile, IsNoRoom, Makes}
use Rattle.drive_channels.specs.Inside.{HasLooked, IsFound, IsKnown, IsSpot, channel_at, channel_of, first_spot, shown}
use Rattle.drive_channels.specs.Spelling.{IsName}
use Rattle.drive_channels.specs.State.{Channel}
use Rattle.drive_channels.specs.Tables.{OpensFile}
use Rattle.drive_channels.specs.declared.open_file.NamedFile.{NamedFile}
use Rattle.drive_channels.specs.declared.open_file.OpenFile.{OpenFile}
use Rattle.drive_channels.specs.declared.open_file.Position.{Position}
use Rattle.drive_channels.specs.declared.open_files.OpenFiles.{OpenFiles}
use Rattle.drive_channels.specs.declared.status.Status.{Status}
use Rattle.drive_channels.specs.declared.status.Status.TheVariants as statuses

-- the first file of a name has one record length
one-length : (img : Image) (name : List ℕ) (m n : ℕ) (f g : File) → IsNamedFile img name m f → IsNamedFile img name n g
    → record_length f.slot ≡ record_length g.slot
one-length img name m n f g x y =
    let l : x.0 ≡ y.0 = IsLayout-one img x.0 y.0 x.1 y.1 in
    ap (λ (h : File). record_length h.slot)
    (IsFirst-one y.0 name m n f g (subst (λ (l : Layout). IsFirst l name m f) l x.2) y.2).1

-- where the file has the length that is asked for, no other one is asked for
no-other : (img : Image) (name : List ℕ) (length : Option ℕ) (entry : ℕ) (f : File) → IsNamedFile img name entry f
    → IfSome length (λ l. record_length f.slot ≡ l) → ¬ (HasOther img name length)
no-other img name None entry f named same other = absurd other
no-other img name (Some l) entry f named same other = other.3 (one-length img name other.0 entry other.1 f other.2 named
    ∙ same)

module _ (img : Image) (k : OpenFiles) (o : OpenFile) (name : List ℕ) (known : IsKnown img k) (last : k.last ≡ Some o)
    (is : o.found.name.items ≡ name) where
  found : IsFound img o.found
  found = found-last img k o known last

  there : HasFile img name
  there = found-file img o.found name found is

  -- the file is there, and is opened
  pub opened-row : (new : OpenFiles) (length : Option ℕ) (number : ℕ) (s : Status)
      → IfSome length (λ l. length_of o.found.file ≡ l)
      → new.last ≡ Some (record { found = o.found; spot = Some (first_spot number) }) → new.checked ≡ k.checked
      → OpensFile (shown img k s) number (record { name = name; length = length }) (shown img new statuses.Ok)
  opened-row new length number s fits after same =
      let f = found-named img o.found name found is in
      inr (
        (λ h. h.1 there),
        inr (
          no-other img name length (entry_of o.found.file) found.file f (right length fits),
          inr (
            (λ h. h.0 there),
            inr (
              (λ h. h there),
              (
                entry_of o.found.file,
                found.file,
                f,
                refl,
                ap₂ (λ (last : Option OpenFile) (checked : Bool). record {
                  image = img;
                  channel = channel_of last;
                  status = statuses.Ok;
                  checked = checked;
                }) after same,
              ),
            ),
          ),
        ),
      )
    where
      right : (length : Option ℕ) → IfSome length (λ l. length_of o.found.file ≡ l)
          → IfSome length (λ l. record_length found.file.slot ≡ l)
      right None h = tt
      right (Some l) h = sym found.of.shows.size ∙ h

  -- it has another length
  pub other-row : (new : OpenFiles) (length : Option ℕ) (number : ℕ) (s : Status)
      → ¬ (IfSome length (λ l. length_of o.found.file ≡ l))
      → new.last ≡ k.last → new.checked ≡ k.checked
      → OpensFile (shown img k s) number (record { name = name; length = length })
      (shown img new statuses.RecordNotPresent)
  other-row new length number s other kept same = inr (
    (λ h. h.1 there),
    inl (
      wrong length other,
      ap₂ (λ (last : Option OpenFile) (checked : Bool). record {
        image = img;
        channel = channel_of last;
        status = statuses.RecordNotPresent;
        checked = checked;
      }) kept same,
    ),
  )
    where
      wrong : (length : Option ℕ) → ¬ (IfSome length (λ l. length_of o.found.file ≡ l)) → HasOther img name length
      wrong None other = absurd (other tt)
      wrong (Some l) other = (
        entry_of o.found.file,
        found.file,
        found-named img o.found name found is,
        (λ same. other (found.of.shows.size ∙ same)),
      )

-- the file isn't there
module _ (img : Image) (k : OpenFiles) (name : List ℕ) (missing : ¬ (HasFile img name)) (number : ℕ) (s : Status) where
  none-other : (length : Option ℕ) → ¬ (HasOther img name length)
  none-other None other = absurd other
  none-other (Some l) other = missing (other.0, other.1, other.2)

  given : (l : ℕ) → IsNone (Some l) × ¬ (HasFile img name) → ⊥
  given l h = cc

  pub taken-row : (l : ℕ) (old : Image) → old ≡ img → HasEntry img name
      → OpensFile (shown img k s) number (record { name = name; length = Some l }) (shown old k statuses.TypeMismatch)
  taken-row l old same taken =
      inr (
        given l,
        inr (
          none-other (Some l),
          inl ((missing, taken), ap (λ (i : Image). shown i k statuses.TypeMismatch) same),
        ),
      )

  pub full-row : (l : ℕ) (old : Image) → old ≡ img → ¬ (HasEntry img name) → IsNoRoom img
      → OpensFile (shown img k s) number (record { name = name; length = Some l }) (shown old k statuses.DiskFull)
  full-row l old same free full =
      inr (
        given l,
        inr (
          none-other (Some l),
          inr ((λ h. free h.1), inl (missing, inl (full, ap (λ (i : Image). shown i k statuses.DiskFull) same))),
        ),
      )

  -- it is made
  pub made-row : (l : ℕ) (new : Image) (after : OpenFiles) (entry : ℕ) → ¬ (HasEntry img name) → ¬ (IsNoRoom img)
      → Makes img new name l entry
      → channel_of after.last ≡ Some (channel_at entry (first_spot number)) → after.checked ≡ k.checked
      → OpensFile (shown img k s) number (record { name = name; length = Some l }) (shown new after statuses.Ok)
  made-row l new after entry free room makes open_one same = inr (
    given l,
    inr (
      none-other (Some l),
      inr (
        (λ h. free h.1),
        inl (
          missing,
          inr (
            room,
            (
              entry,
              makes,
              ap₂ (λ (c : Option Channel) (checked : Bool). record {
                image = new;
                channel = c;
                status = statuses.Ok;
                checked = checked;
              }) open_one same,
            ),
          ),
        ),
      ),
    ),
  )

-- the file that is opened last is the one that was looked for
pub looked-name : (img : Image) (name : List ℕ) (k : OpenFiles) (o : OpenFile) → HasLooked img name k true → k.last ≡ Some o
    → o.found.name.items ≡ name
looked-name img name k o looked last =
    let f = looked.found refl in subst (λ (x : OpenFile). x.found.name.items ≡ name) (same_Some _ _ (sym f.1 ∙ last)) f.2

-- what a creation that is done leaves
pub makes-of : (old new : Image) (l : Layout) (name : List ℕ) (L : ℕ) (v : RelFile) → IsLayout old l
    → IsMade old l name L new v → Makes old new name L (entry_of v)
makes-of old new l name L v layout made = record {
  layout = l;
  is_layout = layout;
  more = made.more;
  there = made.of.there;
}

-- and what is known after it
pub known-made : (old new : Image) (l : Layout) (name : List ℕ) (L : ℕ) (v : RelFile) (e : NamedFile) (s : Position)
    (number : ℕ) → IsCleanLayout old l → IsMade old l name L new v → ¬ (IsTakenName l name) → e.file ≡ v → e.name.items ≡ name → IsName name
    → s ≡ first_spot number → 2 ≤ number → number ≤ 14 → (checked : Bool) → checked ≡ true
    → IsKnown new (record { last = Some (record { found = e; spot = Some s }); before = None; checked = checked })
known-made old new l name L v e s number was made free file is named at low high checked yes-checked = record {
  fresh = λ off. absurd (both off);
  remembered = λ _. record {
    clean = (made.more.layout, stays-clean old new l made.more.layout made.more.clean was);
    last_found = found-new new e v name made.more.layout made.more.file file is named
        (first-made old new l made.more.layout name made.more.file made.more.adds free (entry_of v) made.of.there
        made.more.named) made.of;
    spot = subst (IsSpot e) (sym at) (record {
      low = low;
      high = high;
      record_from = omega arith;
      up_to = omega arith;
      from = omega arith;
      within = e.file.size_low;
    });
    before_found = tt;
    apart = tt;
  };
}
  where
    both : checked ≡ false → ⊥
    both off = cc

-- what is known stays where the image does
pub known-still : (old new : Image) (k : OpenFiles) → new ≡ old → IsKnown old k → IsKnown new k
known-still old new k same h = subst (λ (i : Image). IsKnown i k) (sym same) h

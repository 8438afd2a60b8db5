-- A listing's lines, from what is read of the disk.
use Rattle.std.proofs.Common.{◌≡◌, ◌≢◌, ◌<◌, ◌≤◌, ◌++◌, ◌+◌, ℕ, true, false, List, [], ◌∷◌, get_or, length, take, refl}
use Rattle.std.proofs.Common.{subst, sym, ap, ◌∙◌, inl, inr, ne_eqb, arith}
use Rattle.std.specs.Prelude.{Err, IfErr, Option, Result, codes, decimal, flat_map, nat_eq, not, slice_range}
use Rattle.std.specs.Prelude.{take_while}
use Rattle.std.specs.Io.KnownBytes.{Appends, Keeps}
use Rattle.std.proofs.KnownBytes.{Appends-kept, Appends-trans}
use Rattle.std.proofs.lemmas.List.{append_assoc, flat_map_more, length-take, take_more}
use Rattle.std.proofs.lemmas.List.Sums.{prefix_len_is}
use Rattle.d64_image.specs.Images.{Sector, sector}
use Rattle.d64_image.specs.Memory.{sectors_in}
use Rattle.disk_layout.specs.Directory.{map_place, type_byte}
use Rattle.disk_layout.specs.Layout.{count_field}
use Rattle.disk_layout.specs.View.{IsUnpadded, blocks_free}
use Rattle.disk_layout.specs.declared.slot.Slot.{Slot}
use Rattle.command_faults.specs.Faults.{IsLoadFault}
use Rattle.damaged_files.specs.reached.Types.{type_text}
use Rattle.disk_reports.specs.Listings.{HasDirectory, IsListFault, IsListed}
use Rattle.command_faults.specs.declared.faults.CommandFault.{CommandFault}
use Rattle.disk_reports.specs.declared.texts.NameForm.{NameForm}
use Rattle.disk_reports.specs.Texts.{disk_text, entry_line, entry_text, free_text, listing, name_text, quoted}
use Rattle.command_faults.proofs.Loads.{by-load}

-- a byte that pads nothing
plain-byte : (b : ℕ) → b ≢ 160 → not (nat_eq b 160) ≡ true
plain-byte b other = rw (ne_eqb b 160 other) refl

-- a name without its padding has the bytes up to the first A0
unpadded-is : (padded name : List ℕ) → IsUnpadded padded name → take_while (λ b. not (nat_eq b 160)) padded ≡ name
unpadded-is padded name is =
    let fits : length name ≤ length padded = omega (arith, ap length is.front, length-take (length name) padded) in
    let ends : length name < length padded → not (nat_eq (get_or padded (length name) 0) 160) ≡ false =
    λ more. elim is.ends [ inl all ↦ absurd (omega (arith, all, more)) | inr pad ↦ rw pad refl ] in
    ap (λ n. take n padded)
    (prefix_len_is (λ b. not (nat_eq b 160)) padded (length name) 0 fits (λ k below. plain-byte (get_or padded k 0)
    (is.bytes k below)) ends)
    ∙ sym is.front

-- a name between quotation marks, and what follows
quoted-written : (form : NameForm) (padded name rest : List ℕ) → IsUnpadded padded name
    → codes "\"" ++ (name_text form name ++ (codes "\"" ++ rest)) ≡ quoted form padded ++ rest
unfolding quoted
quoted-written form padded name rest is =
    ap (λ t. codes "\"" ++ t) (sym (append_assoc (name_text form name) (codes "\"") rest))
    ∙ ap (λ (bytes : List ℕ). codes "\"" ++ (name_text form bytes ++ codes "\"") ++ rest)
    (sym (unpadded-is padded name is))

-- an entry's parts, as they are written one after another
pub entry-written : (form : NameForm) (s : Slot) (name : List ℕ) → IsUnpadded (slice_range s.bytes 5 21) name
    → decimal (count_field s) ++ (codes " \"" ++ (name_text form name ++ (codes "\" " ++ type_text (codes "<") (type_byte s)))) ≡
    entry_text form s
unfolding entry_text
entry-written form s name is =
    ap (λ t. decimal (count_field s) ++ (codes " " ++ t)) (quoted-written form (slice_range s.bytes 5 21) name
    (codes " " ++ type_text (codes "<") (type_byte s)) is)

-- the same of a disk's name, id and version
pub disk-written : (form : NameForm) (bytes : Sector) (name : List ℕ) → IsUnpadded (slice_range bytes 144 160) name
    → codes "0 \""
    ++ (name_text form name
    ++ (codes "\" " ++ (name_text form (slice_range bytes 162 164)
    ++ (codes " " ++ name_text form (slice_range bytes 165 167))))) ≡ disk_text form bytes
unfolding disk_text
disk-written form bytes name is =
    ap (λ t. codes "0 " ++ t)
    (quoted-written form (slice_range bytes 144 160) name
    (codes " " ++ (name_text form (slice_range bytes 162 164)
    ++ (codes " " ++ name_text form (slice_range bytes 165 167))))
    is)

-- one entry's line more
pub lines-more : (a b c : Option (List ℕ)) (form : NameForm) (slots : List Slot) (i : ℕ) (s : Slot) → i < length slots
    → get_or slots i s ≡ s
    → Appends a b (flat_map (entry_line form) (take i slots)) → Appends b c (entry_text form s ++ codes "\n")
    → Appends a c (flat_map (entry_line form) (take (i + 1) slots))
lines-more a b c form slots i s inside here before line =
    let taken : take (i + 1) slots ≡ take i slots ++ s ∷ [] = take_more slots i s inside
    ∙ ap (λ (x : Slot). take i slots ++ x ∷ []) here in
    subst (Appends a c) (flat_map_more (entry_line form) [] (take i slots) s ∙ ap (flat_map (entry_line form)) (sym taken))
    (Appends-trans a b c _ _ before line)

-- the first line, the lines of the entries and the last line are the listing
pub listing-written : (a b c d e : Option (List ℕ)) (form : NameForm) (bytes : Sector) (slots : List Slot)
    → Appends a b (disk_text form bytes ++ codes "\n") → Appends b c (flat_map (entry_line form) slots)
    → Appends c d (free_text (blocks_free bytes) ++ codes "\n") → Keeps d e
    → Appends a e (listing form bytes slots)
unfolding listing
listing-written a b c d e form bytes slots first entries last kept =
    let free = free_text (blocks_free bytes) in
    Appends-kept a d e _
    (subst (Appends a d) (sym (append_assoc (disk_text form bytes ++ codes "\n" ++ flat_map (entry_line form) slots) free
    (codes "\n")))
    (Appends-trans a c d _ _ (Appends-trans a b c _ _ first entries) last)) kept

-- what was printed is the listing of the image
pub is-listed : {W : Type 0} (contents : W → Option (List ℕ)) (form : NameForm) (image : List ℕ) (old new : W)
    (directory : HasDirectory image)
    → (bytes : Sector) (slots : List Slot) → bytes ≡ sector (sectors_in image) map_place → slots ≡ directory.entries
    → Appends (contents old) (contents new) (listing form bytes slots) → IsListed contents form image old new
is-listed contents form image old new directory bytes slots here same printed = record {
  listed = directory;
  printed = subst (λ (b : Sector). Appends (contents old) (contents new) (listing form b directory.entries)) here
      (subst (λ (ss : List Slot). Appends (contents old) (contents new) (listing form bytes ss)) same printed);
}

-- what isn't loaded isn't listed
pub load-listed : {T : Type 0} (image : List ℕ) (fault : CommandFault) (r : Result T CommandFault) → r ≡ Err fault
    → IsLoadFault image fault → IfErr r (IsListFault image)
load-listed {T = T} image fault r told load = subst (λ (x : Result T CommandFault). IfErr x (IsListFault image)) (sym told)
    (by-load image (IsListFault image) (λ h. h) (λ h. h) fault load)

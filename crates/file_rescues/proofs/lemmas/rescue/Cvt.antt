-- Files of GEOS: what was reached of them, and how long their CVT is.
use Rattle.std.proofs.Common.{◌≡◌, ◌≤◌, ◌+◌, ◌-◌, ◌*◌, ◌∷◌, ◌++◌, ℕ, zero, suc, Bool, true, false, List, [], Option, None, Some, ap, append_assoc, arith, drop, inl, inr, length, length-append, map, max, refl, subst, sym, take, ◌∙◌}
use Rattle.std.specs.List.{AllByRecursion}
use Rattle.std.specs.Option.{is_some}
use Rattle.std.specs.Prelude.{Err, IfOk, IsOk, Ok, OnOk, Result, codes, filter, nat_lt, replicate, slice_range}
use Rattle.std.proofs.lemmas.Bool.{false≢true, lt-ltb}
use Rattle.std.proofs.Math.Seq.{take-append_seam}
use Rattle.std.proofs.lemmas.List.{length-drop, length-map, length-replicate, length-take}
use Rattle.d64_image.specs.Images.{Image, IsImage, sector}
use Rattle.d64_image.specs.Places.{index_of}
use Rattle.d64_image.specs.declared.place.Place.{Place}
use Rattle.damaged_files.specs.reached.Reached.{IsReached}
use Rattle.disk_layout.proofs.lemmas.lists.Count.{places-few}
use Rattle.disk_layout.proofs.lemmas.records.Joined.{length-joined}
use Rattle.disk_layout.specs.Records.{joined}
use Rattle.disk_layout.specs.declared.faults.Fault.{Fault}
use Rattle.disk_layout.specs.declared.slot.Slot.{Slot}
use Rattle.geos_files.specs.Cvt.{signature}
use Rattle.geos_files.specs.Entries.{geos_entry}
use Rattle.geos_files.specs.Reached.{IsGeosReach}
use Rattle.geos_files.specs.declared.entries.GeosEntry.{GeosEntry}
use Rattle.long_chains.specs.Sectors.{HasSector}
use Rattle.line_text.specs.petscii.FileNames.{file_byte, file_name_of, number_text}
use Rattle.line_text.specs.declared.petscii.file_names.Ending.TheVariants.{Prg}
use Rattle.file_rescues.proofs.Pieced.{short-file}
use Rattle.file_rescues.specs.Bytes.{file_bytes}
use Rattle.file_rescues.specs.Long.{long_chain}
use Rattle.file_rescues.specs.rescue.Geos.{cvt_bytes, leading}
use Rattle.geos_files.specs.Long.{long_geos}
use Rattle.file_rescues.specs.rescue.Named.{cvt_name}
use Rattle.file_rescues.specs.rescue.Rescues.{IsChainTaken, IsOfChain, IsReachedBy, IsReachedIn, IsRescued, IsTaken, bytes_by, is_on_disk}
use Rattle.file_rescues.specs.declared.rescue.rescuing.Rescued.{Rescued}

-- what can be reached of an entry's file isn't more than the disk
reached-few : (img : Image) (s : Slot) (ps : List Place) (fault : Option Fault) (u : ℕ) → IsReached img s ps fault u
    → length ps ≤ 683
reached-few img s ps fault u (inl none) = omega (arith, ap length none.1)
reached-few img s ps fault u (inr (inl bad)) = omega (arith, ap length bad.2)
reached-few img s ps fault u (inr (inr walk)) = places-few ps walk.2.once

-- what was taken of a file that isn't one of GEOS with a sector past track 35
reached-in : (image : List ℕ) (img : Image) (s : Slot) (o : Option GeosEntry) (f : Rescued) → long_geos image s ≡ None
    → geos_entry s ≡ o → f.slot ≡ s → IsReachedBy o image img f → f.is_cvt ≡ is_some o
    → IsReachedIn (long_geos image f.slot) image img f
reached-in image img s o f none geos slot reach cvt =
    let here : IsReachedBy (geos_entry s) image img f × (f.is_cvt ≡ is_some (geos_entry s)) =
    subst (λ (e : Option GeosEntry). IsReachedBy e image img f × (f.is_cvt ≡ is_some e)) (sym geos) (reach, cvt) in
    let there : IsReachedBy (geos_entry f.slot) image img f × (f.is_cvt ≡ is_some (geos_entry f.slot)) =
    subst (λ (t : Slot). IsReachedBy (geos_entry t) image img f × (f.is_cvt ≡ is_some (geos_entry t))) (sym slot) here in
    subst (λ (parts : Option (List ℕ × List ℕ)). IsReachedIn parts image img f) (sym (ap (long_geos image) slot ∙ none)) there

-- no file without sectors has too many
few-here : (f : Rescued) → f.sectors.items ≡ [] → f.is_cvt ≡ true → length f.sectors.items ≤ 800
few-here f none cvt = omega (arith, ap length none)

-- the slot with what was reached
pub geos-rescued : (image : List ℕ) (img : Image) (s : Slot) (entry : GeosEntry) (f : Rescued) (ps : List Place) (bs : List ℕ)
    (fault : Option Fault) (u : ℕ) → long_geos image s ≡ None → geos_entry s ≡ Some entry → f.is_cvt ≡ true → f.slot ≡ s
    → f.blocks.items ≡ ps → f.pairs.items ≡ bs
    → f.sectors.items ≡ [] → f.fault ≡ fault → f.last ≡ u → IsGeosReach img entry ps bs fault u → length ps ≤ 683
    → length bs ≤ 254 → IsRescued image img f
geos-rescued image img s entry f ps bs fault u none geos cvt slot blocks pairs sectors faults end reach few short =
    let here : IsGeosReach img entry f.blocks.items f.pairs.items f.fault f.last =
    rw (blocks, pairs, faults, end) reach in
    record {
      reached = reached-in image img s (Some entry) f none geos slot (here, sectors) cvt;
      few = λ no. omega (arith, ap length blocks, few);
      pairs = omega (arith, ap length pairs, short);
      inside = subst (AllByRecursion (HasSector image)) (sym sectors) tt;
      short = omega (arith, ap length sectors);
      cvt = few-here f sectors;
    }

-- the chain was taken on tracks 1 to 35, since it isn't long
pub chain-rescued : (image : List ℕ) (img : Image) (s : Slot) (f : Rescued) (ps : List Place) (fault : Option Fault) (u : ℕ)
    → long_geos image s ≡ None → geos_entry s ≡ None → f.is_cvt ≡ false → f.slot ≡ s → f.blocks.items ≡ ps → f.pairs.items ≡ []
    → f.sectors.items ≡ [] → f.fault ≡ fault
    → f.last ≡ u → IsReached img s ps fault u → None ≡ long_chain image s fault → IsRescued image img f
chain-rescued image img s f ps fault u other geos cvt slot blocks pairs sectors faults end reach none =
    let taken : IsTaken f ps fault u (long_chain image s fault) =
    subst (IsTaken f ps fault u) none (blocks, faults, end, sectors) in
    let here : IsChainTaken image img f = record {
      blocks = ps;
      fault = fault;
      last = u;
      reached = subst (λ (t : Slot). IsReached img t ps fault u) (sym slot) reach;
      taken = subst (λ (t : Slot). IsTaken f ps fault u (long_chain image t fault)) (sym slot) taken;
    } in
    record {
      reached = reached-in image img s None f other geos slot (here, pairs) cvt;
      few = λ no. omega (arith, ap length blocks, reached-few img s ps fault u reach);
      pairs = omega (arith, ap length pairs);
      inside = subst (AllByRecursion (HasSector image)) (sym sectors) tt;
      short = omega (arith, ap length sectors);
      cvt = few-here f sectors;
    }

-- a file that isn't long has no sectors, and a chain without sectors no blocks
pub not-long : (n : ℕ) → nat_lt 0 n ≡ false → n ≡ 0
not-long zero is = refl
not-long (suc n) is = absurd (false≢true (sym is ∙ lt-ltb 0 (suc n) (omega arith)))

few-none : (f : Rescued) (ns : List ℕ) → map index_of f.blocks.items ≡ filter is_on_disk ns → length ns ≡ 0
    → length f.blocks.items ≤ 683
few-none f [] same none = omega (arith, ap length same, length-map f.blocks.items index_of)
few-none f (n ∷ ns) same none = absurd (omega (arith, none))

-- its long chain was
pub long-rescued : (image : List ℕ) (img : Image) (s : Slot) (f : Rescued) (ps : List Place) (fault : Option Fault) (u : ℕ)
    (shown ns : List ℕ) → long_geos image s ≡ None → geos_entry s ≡ None → f.is_cvt ≡ false → f.slot ≡ s → f.pairs.items ≡ []
    → IsOfChain f shown → shown ≡ ns
    → IsReached img s ps fault u → Some ns ≡ long_chain image s fault → AllByRecursion (HasSector image) ns
    → length ns ≤ 802 → IsRescued image img f
long-rescued image img s f ps fault u shown ns other geos cvt slot pairs of same reach long inside short =
    let mine : IsOfChain f ns = subst (IsOfChain f) same of in
    let here : IsChainTaken image img f = record {
      blocks = ps;
      fault = fault;
      last = u;
      reached = subst (λ (t : Slot). IsReached img t ps fault u) (sym slot) reach;
      taken = subst (λ (t : Slot). IsTaken f ps fault u (long_chain image t fault)) (sym slot)
          (subst (IsTaken f ps fault u) long mine);
    } in
    record {
      reached = reached-in image img s None f other geos slot (here, pairs) cvt;
      few = λ no. few-none f ns mine.blocks (omega (arith, no, ap length mine.sectors));
      pairs = omega (arith, ap length pairs);
      inside = subst (AllByRecursion (HasSector image)) (sym mine.sectors) inside;
      short = omega (arith, ap length mine.sectors, short);
      cvt = λ yes. absurd (false≢true (sym cvt ∙ yes));
    }

-- all of a file of GEOS was taken
pub parts-rescued : (image : List ℕ) (img : Image) (s : Slot) (f : Rescued) (shown ns bytes bs : List ℕ)
    → Some (ns, bs) ≡ long_geos image s → f.slot ≡ s → f.pairs.items ≡ bytes → IsOfChain f shown → f.is_cvt ≡ true → shown ≡ ns
    → bytes ≡ bs → AllByRecursion (HasSector image) ns → length ns ≤ 800 → length bs ≤ 254 → IsRescued image img f
parts-rescued image img s f shown ns bytes bs long slot pairs of cvt same also inside few short =
    let mine : IsOfChain f ns = subst (IsOfChain f) same of in
    let here : IsReachedIn (Some (ns, bs)) image img f = (mine, pairs ∙ also, cvt) in
    record {
      reached = subst (λ (parts : Option (List ℕ × List ℕ)). IsReachedIn parts image img f)
          (long ∙ ap (long_geos image) (sym slot)) here;
      few = λ no. few-none f ns mine.blocks (omega (arith, no, ap length mine.sectors));
      pairs = omega (arith, ap length pairs, ap length also, short);
      inside = subst (AllByRecursion (HasSector image)) (sym mine.sectors) inside;
      short = omega (arith, ap length mine.sectors, few);
      cvt = λ yes. omega (arith, ap length mine.sectors, few);
    }

-- what holds of a value by four clauses of a result, where there is one
pub if-taken : {T E : Type 0} (r : Result T E) (P Q R U : T → Type 0) {S : T → Type 0}
    → ((x : T) → P x → Q x → R x → U x → S x) → IfOk r P → IfOk r Q → IfOk r R → IfOk r U → IfOk r S
if-taken (Ok x) P Q R U holds p q of cvt = holds x p q of cvt
if-taken (Err e) P Q R U holds p q of cvt = tt

-- the bytes of blocks are at most 254 each
file-long : (img : Image) (blocks : List Place) (u : ℕ) → IsImage img
    → length (file_bytes img blocks u) ≤ 254 * length blocks
unfolding file_bytes
file-long img blocks u whole =
    let long = length-joined img blocks whole in
    let part = length-take (254 * (length blocks - 1) + max u 1 - 1) (joined img blocks) in
    omega (arith, long, part)

pub signature-long : (b : Bool) → length (signature b) ≡ 28
signature-long true = refl
signature-long false = refl

pub leading-some : (b : Bool) → 1 ≤ leading b
leading-some true = omega arith
leading-some false = omega arith

-- a CVT is no longer than the disk and three blocks
cvt-short : (img : Image) (entry : GeosEntry) (f : Rescued) → IsImage img → length f.blocks.items ≤ 683
    → length f.pairs.items ≤ 254 → length (cvt_bytes img entry f) ≤ 182880
unfolding cvt_bytes
cvt-short img entry f whole few pairs =
    let head = slice_range f.slot.bytes 2 32 in
    let sign = signature entry.has_records in
    let zeros : List ℕ = replicate 196 0 in
    let info = slice_range (sector img entry.info) 2 256 in
    let content = drop (leading entry.has_records) f.blocks.items in
    let bytes = file_bytes img content f.last in
    let a = length-append head (sign ++ (zeros ++ (info ++ (f.pairs.items ++ bytes)))) in
    let b = length-append sign (zeros ++ (info ++ (f.pairs.items ++ bytes))) in
    let c = length-append zeros (info ++ (f.pairs.items ++ bytes)) in
    let d = length-append info (f.pairs.items ++ bytes) in
    let e = length-append f.pairs.items bytes in
    let head-long = length-take 30 (drop 2 f.slot.bytes) in
    let info-long = length-take 254 (drop 2 (sector img entry.info)) in
    let zeros-long = length-replicate {A = ℕ} 196 0 in
    let sign-long = signature-long entry.has_records in
    let content-long = length-drop (leading entry.has_records) f.blocks.items in
    let bytes-long = file-long img content f.last whole in
    omega (arith, a, b, c, d, e, head-long, info-long, zeros-long, sign-long, content-long, bytes-long, few, pairs)

pub short-bytes : (img : Image) (f : Rescued) → IsImage img → length f.blocks.items ≤ 683 → length f.pairs.items ≤ 254
    → length (bytes_by (geos_entry f.slot) img f) ≤ 182880
short-bytes img f whole few pairs = by-entry (geos_entry f.slot)
  where
    by-entry : (o : Option GeosEntry) → length (bytes_by o img f) ≤ 182880
    by-entry None = short-file img f.blocks.items f.last whole (omega (arith, few))
    by-entry (Some entry) = cvt-short img entry f whole few pairs

-- a text of six parts, each of which came to those before
pub joined-six : (none one two three four five six a b c d e f : List ℕ) → none ≡ [] → one ≡ none ++ a → two ≡ one ++ b
    → three ≡ two ++ c → four ≡ three ++ d → five ≡ four ++ e → six ≡ five ++ f
    → six ≡ a ++ (b ++ (c ++ (d ++ (e ++ f))))
joined-six none one two three four five six a b c d e f empty p q r s t u =
    u ∙ ap (λ (l : List ℕ). l ++ f)
    (t ∙ ap (λ (l : List ℕ). l ++ e)
    (s ∙ ap (λ (l : List ℕ). l ++ d)
    (r ∙ ap (λ (l : List ℕ). l ++ c) (q ∙ ap (λ (l : List ℕ). l ++ b) (p ∙ ap (λ (l : List ℕ). l ++ a) empty)))))
    ∙ append_assoc (a ++ b ++ c ++ d) e f ∙ append_assoc (a ++ b ++ c) d (e ++ f)
    ∙ append_assoc (a ++ b) c (d ++ (e ++ f)) ∙ append_assoc a b (c ++ (d ++ (e ++ f)))

-- what holds if there is a value, where there is one
pub holds : {T E P : Type 0} (r : Result T E) → IsOk r → OnOk r P → P
holds (Ok x) is p = p
holds (Err e) is p = cc

-- the name of a CVT, made of another
pub prg-long : (n : ℕ) (a : List ℕ) → 4 ≤ length (file_name_of n a Prg)
unfolding file_name_of
prg-long n a =
    let x = length-append (number_text n) (45 ∷ (map file_byte a ++ codes ".prg")) in
    let y = length-append (map file_byte a) (codes ".prg") in
    omega (arith, x, y)

pub cvt-named : (n k : ℕ) (a items cut all : List ℕ) → items ≡ file_name_of n a Prg → k ≡ length items - 3
    → cut ≡ take k items → all ≡ cut ++ codes "cvt" → all ≡ cvt_name n a
unfolding cvt_name file_name_of
cvt-named n k a items cut all is end short more =
    let front : List ℕ = number_text n ++ 45 ∷ (map file_byte a ++ codes ".") in
    let whole : items ≡ front ++ codes "prg" =
    is ∙ ap (λ (l : List ℕ). number_text n ++ 45 ∷ l) (sym (append_assoc (map file_byte a) (codes ".") (codes "prg")))
    ∙ sym (append_assoc (number_text n) (45 ∷ (map file_byte a ++ codes ".")) (codes "prg")) in
    let long = ap length whole ∙ length-append front (codes "prg") in
    let at : k ≡ length front = omega (arith, end, long) in
    let cut-is : cut ≡ front =
    short ∙ ap (λ (i : ℕ). take i items) at ∙ ap (λ (l : List ℕ). take (length front) l) whole
    ∙ take-append_seam front (codes "prg") in
    more ∙ ap (λ (l : List ℕ). l ++ codes "cvt") cut-is
    ∙ append_assoc (number_text n) (45 ∷ (map file_byte a ++ codes ".")) (codes "cvt")
    ∙ ap (λ (l : List ℕ). number_text n ++ 45 ∷ l) (append_assoc (map file_byte a) (codes ".") (codes "cvt"))

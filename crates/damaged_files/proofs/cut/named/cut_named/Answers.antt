-- The file of the first entry of the name, and whether it is cut short.
use Rattle.std.proofs.Common.{◌≡◌, ◌<◌, List, None, Some, arith, map, refl, subst, sym, ◌∙◌, ⊎_elim, IsTrue, ℕ}
use Rattle.std.proofs.lemmas.Bool.{false≢true}
use Rattle.std.specs.Prelude.{MatchOption, Option, slice_get, ◌↔◌}
use Rattle.d64_image.specs.Images.{Image}
use Rattle.d64_image.specs.Memory.{disk_image}
use Rattle.d64_image.specs.declared.place.Place.{Place}
use Rattle.disk_layout.specs.Layout.{File, IsFile, IsLayout, Layout}
use Rattle.disk_layout.specs.Listed.{HasStock}
use Rattle.disk_layout.specs.declared.slot.Slot.{Slot}
use Rattle.damaged_files.proofs.lemmas.cut.Entries.{entry-at, file-at, one-entry}
use Rattle.damaged_files.proofs.lemmas.cut.Shorts.{cut-as}
use Rattle.damaged_files.specs.cut.Cut.{HasStray, IsCutIn}
use Rattle.damaged_files.specs.cut.OfName.{HasNoneOfName, IsCutNamed, IsFirstOfName, IsOfName}
use Rattle.damaged_files.proofs.cut.named.cut_named.Goals as goal

-- two first entries of one name stand at one number
one-number : (slots : List Slot) (name : List ℕ) (s t : Slot) (n : ℕ) (first : IsFirstOfName slots name s) → slice_get slots n ≡ Some t
    → IsOfName name t → ((k : ℕ) (u : Slot) → k < n → slice_get slots k ≡ Some u → ¬ (IsOfName name u)) → first.number ≡ n
one-number slots name s t n first there named before =
    let low : n < first.number → ⊥ = λ lt. first.first n t lt there named in
    let high : first.number < n → ⊥ = λ lt. before first.number s lt first.there first.named in
    omega (arith, low, high)

module _ (img : Image) (name : List ℕ) (slots : List Slot) (strays shop : Type 0)
    (facts : (l : Layout) → IsLayout img l → (slots ≡ map (λ (f : File). f.slot) l.files) × (strays ↔ HasStray img l)
    × (shop ↔ HasStock l)) where
  -- no entry has the name
  pub none-named : HasNoneOfName slots name → (p : Place) → ¬ (IsCutNamed img name p)
  none-named none p cut =
      let (e, s, h) = facts cut.layout cut.sound in
      let (there, file) = entry-at img cut.layout cut.sound slots e cut.number cut.file cut.there in
      none cut.number cut.file.slot there cut.named

  -- the first one that has it is cut short or not
  pub told-named : (s : Slot) → IsFirstOfName slots name s → ((l : Layout) × IsLayout img l) → (found : Option Place)
      → ((f : File) → IsFile img f → f.slot ≡ s → MatchOption found ((q : Place) → ¬ (IsCutIn img strays shop f q))
      (IsCutIn img strays shop f)) → MatchOption found ((p : Place) → ¬ (IsCutNamed img name p)) (IsCutNamed img name)
  told-named s first (l, is) None told = λ p cut.
      let (e, x, h) = facts cut.layout cut.sound in
      let (there, file) = entry-at img cut.layout cut.sound slots e cut.number cut.file cut.there in
      let before : (k : ℕ) (u : Slot) → k < cut.number → slice_get slots k ≡ Some u → ¬ (IsOfName name u) = λ k u lt at of.
      (let (g, at_file, same, is_file) = file-at img cut.layout cut.sound slots e k u at in
      cut.first k g lt at_file (subst (IsOfName name) (sym same) of)) in
      let same = one-number slots name s cut.file.slot cut.number first there cut.named before in
      let slot = one-entry slots cut.number first.number cut.file.slot s (sym same) there first.there in
      told cut.file file slot p (cut-as img (HasStray img cut.layout) strays (HasStock cut.layout) shop cut.file p x.1 h.1 cut.cut)
  told-named s first (l, is) (Some p) told =
      let (e, x, h) = facts l is in
      let (f, there, same, file) = file-at img l is slots e first.number s first.there in
      record {
        layout = l;
        sound = is;
        number = first.number;
        file = f;
        there = there;
        named = subst (IsOfName name) (sym same) first.named;
        first = λ k g lt at.
            let (at_entry, is_file) = entry-at img l is slots e k g at in
            first.first k g.slot lt at_entry;
        cut = cut-as img strays (HasStray img l) shop (HasStock l) f p x.0 h.0 (told f file same);
      }

pub returns-in_err-slot-clause-told : goal.returns-in_err-slot-clause-told
returns-in_err-slot-clause-told c =
    let none = subst (λ (o : Option Slot). MatchOption o (HasNoneOfName c.as_slice.result.now c.args.name.now)
    (IsFirstOfName c.as_slice.result.now c.args.name.now)) c.in_err-slot.was c.first_of.ensures in
    let facts : (l : Layout) → IsLayout (disk_image c.args.disk.now) l
    → (c.as_slice.result.now ≡ map (λ (f : File). f.slot) l.files)
    × (IsTrue c.in-Ok.facts.strays ↔ HasStray (disk_image c.args.disk.now) l) × (IsTrue c.in-Ok.facts.shop ↔ HasStock l) = λ l is.
    (let (e, x, h) = c.in-Ok.ensures.ok l is in (c.as_slice.ensures.value ∙ e, x, h)) in
    rw c.from_residual.ensures (none-named (disk_image c.args.disk.now) c.args.name.now c.as_slice.result.now
    (IsTrue c.in-Ok.facts.strays) (IsTrue c.in-Ok.facts.shop) facts none)

pub returns-clause-told : goal.returns-clause-told
returns-clause-told c =
    let first = subst (λ (o : Option Slot). MatchOption o (HasNoneOfName c.as_slice.result.now c.args.name.now)
    (IsFirstOfName c.as_slice.result.now c.args.name.now)) c.in_ok-slot.was c.first_of.ensures in
    let facts : (l : Layout) → IsLayout (disk_image c.args.disk.now) l
    → (c.as_slice.result.now ≡ map (λ (f : File). f.slot) l.files)
    × (IsTrue c.in-Ok.facts.strays ↔ HasStray (disk_image c.args.disk.now) l) × (IsTrue c.in-Ok.facts.shop ↔ HasStock l) = λ l is.
    (let (e, x, h) = c.in-Ok.ensures.ok l is in (c.as_slice.ensures.value ∙ e, x, h)) in
    let P : Image → Type 0 = λ i. (f : File) → IsFile i f → f.slot ≡ c.in_ok-slot.slot
    → MatchOption c.cut_of.result ((q : Place) → ¬ (IsCutIn i (IsTrue c.in-Ok.facts.strays) (IsTrue c.in-Ok.facts.shop) f q))
    (IsCutIn i (IsTrue c.in-Ok.facts.strays) (IsTrue c.in-Ok.facts.shop) f) in
    told-named (disk_image c.args.disk.now) c.args.name.now c.as_slice.result.now (IsTrue c.in-Ok.facts.strays)
    (IsTrue c.in-Ok.facts.shop) facts c.in_ok-slot.slot first (c.in-Ok.ensures.sound.0 refl) c.cut_of.result
    (subst P c.read_facts.ensures.same c.cut_of.ensures.told)

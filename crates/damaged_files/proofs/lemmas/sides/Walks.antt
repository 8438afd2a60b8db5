-- Chains that were walked and compared.
use Rattle.std.proofs.Common.{◌≡◌, ◌<◌, ◌≤◌, ◌+◌, List, arith, ap, inl, inr, length, map, subst, sym, true, ◌∙◌, ℕ}
use Rattle.std.proofs.lemmas.Option.{slice_get-map, slice_get_within}
use Rattle.std.specs.Prelude.{Contains, Err, IfOk, None, Ok, Result, Some, is_ok, option_map, slice_get}
use Rattle.d64_image.specs.Images.{Image, Sector, sector}
use Rattle.d64_image.specs.declared.place.Place.{Place}
use Rattle.disk_layout.proofs.lemmas.chains.Chains.{IsChain-one}
use Rattle.disk_layout.proofs.lemmas.chains.Names.{named-is, named-none}
use Rattle.disk_layout.proofs.lemmas.layouts.Layouts.{IsDirectory-one, get-contains}
use Rattle.disk_layout.proofs.lemmas.lists.Lists.{contains-get}
use Rattle.disk_layout.specs.Chain.{IsChain, named_at}
use Rattle.disk_layout.specs.Directory.{IsDirectory, directory_start}
use Rattle.disk_layout.specs.Layout.{File, IsLayout, Layout}
use Rattle.disk_layout.specs.declared.slot.Slot.{Slot}
use Rattle.damaged_files.proofs.lemmas.Below.{below-or-here}
use Rattle.damaged_files.specs.sides.Compared.{SameAt, SameChain}

-- what a call that passed returned
pub passed : {T E : Type 0} (r : Result T E) (P : T → Type 0) → is_ok r ≡ true → IfOk r P → (t : T) × P t
passed (Ok t) P ok h = (t, h)
passed (Err e) P ok h = cc

-- the chain that was walked and compared is the entry's
pub walked-same : (a b now : Image) (s : Slot) (viewed : Sector) (first : Place) (ps walked : List Place) (u : ℕ)
    → now ≡ b → viewed ≡ s.bytes → Some first ≡ named_at viewed 3 → walked ≡ ps → IsChain b first ps u
    → SameAt a now walked → SameChain a b s
walked-same a b now s viewed first ps walked u same view named items chain at p qs w names other q c =
    let known : named_at viewed 3 ≡ Some p = rw view (named-is s.bytes 3 p names) in
    let both : Some first ≡ Some p = named ∙ known in
    let one : first ≡ p = cc in
    let P : Place → Type 0 = λ x. IsChain b x ps u in
    let chains = IsChain-one b p ps qs u w (subst P one chain) other in
    let C : List Place → Type 0 = λ xs. Contains xs q in
    at q (subst C (sym (items ∙ chains.0)) c) ∙ ap (λ (i : Image). sector i q) same

-- the chain that was walked from the directory's start and compared is the directory's
pub walked-directory : (a b now : Image) (ps walked : List Place) (u : ℕ) → now ≡ b → walked ≡ ps
    → IsChain b directory_start ps u → SameAt a now walked → (qs : List Place) (w : ℕ) → IsChain b directory_start qs w
    → SameAt a b qs
walked-directory a b now ps walked u same items chain at qs w other q c =
    let chains = IsChain-one b directory_start ps qs u w chain other in
    let C : List Place → Type 0 = λ xs. Contains xs q in
    at q (subst C (sym (items ∙ chains.0)) c) ∙ ap (λ (i : Image). sector i q) same

-- an entry that names no block has no chain
pub no-chain : (a b : Image) (s : Slot) (viewed : Sector) → viewed ≡ s.bytes → None ≡ named_at viewed 3
    → SameChain a b s
no-chain a b s viewed view none p ps u names chain =
    absurd (named-none s.bytes 3 (rw (← view) (sym none)) p names)

-- what holds of the first n entries holds of one more
pub one-more : {X : Type 0} (P : X → Type 0) (xs : List X) (n : ℕ) (x : X) → slice_get xs n ≡ Some x → P x
    → ((k : ℕ) (y : X) → k < n → slice_get xs k ≡ Some y → P y) → (k : ℕ) (y : X) → k < n + 1
    → slice_get xs k ≡ Some y → P y
one-more P xs n x at here before k y lt to = elim (below-or-here k n lt) [
  | inl low ↦ before k y low to
  | inr e ↦
      let both : Some x ≡ Some y = sym at ∙ ap (λ m. slice_get xs m) (sym e) ∙ to in
      let one : x ≡ y = cc in
      subst P one here
]

-- and what holds of all by their numbers holds of each
pub of-each : {X : Type 0} (P : X → Type 0) (xs : List X) (n : ℕ) → length xs ≤ n
    → ((k : ℕ) (y : X) → k < n → slice_get xs k ≡ Some y → P y) → (x : X) → Contains xs x → P x
of-each P xs n all h x c =
    let (k, at) = contains-get xs x c in
    h k x (omega (arith, all, slice_get_within xs k x at)) at

-- each file's entry is among those that were listed
pub file-listed : (img : Image) (l : Layout) (slots items : List Slot) → items ≡ slots → IsLayout img l
    → (ps : List Place) × IsDirectory img ps slots → (f : File) → Contains l.files f → Contains items f.slot
file-listed img l slots items e is (ps, d) f c =
    let all = (IsDirectory-one img ps l.directory slots _ d is.directory).1 in
    let (k, at) = contains-get l.files f c in
    let C : List Slot → Type 0 = λ xs. Contains xs f.slot in
    subst C (sym (e ∙ all)) (get-contains (map (λ (g : File). g.slot) l.files) k f.slot
    (slice_get-map (λ (g : File). g.slot) l.files k ∙ ap (option_map (λ (g : File). g.slot)) at))

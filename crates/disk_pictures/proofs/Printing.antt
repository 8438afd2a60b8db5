-- Lines printed one after another.
use Rattle.std.proofs.Common.{◌≡◌, ◌<◌, ◌+◌, ◌++◌, ℕ, suc, List, [], ◌∷◌, get_or, length, map, take, refl, subst, sym}
use Rattle.std.proofs.Common.{ap, append_assoc, ◌∙◌, arith}
use Rattle.std.specs.Prelude.{None, Option, Some, flat_map}
use Rattle.std.specs.Io.KnownBytes.{Appends}
use Rattle.std.specs.Char.{encode_utf8}
use Rattle.std.proofs.lemmas.Bool.{lt-ltb}
use Rattle.std.proofs.KnownBytes.{Appends-nil, Appends-trans}
use Rattle.std.proofs.lemmas.List.{append-nil, flat_map_more, length-map, length-take-le, map_more, take_more}
use Rattle.d64_image.specs.declared.place.Place.{Place}
use Rattle.disk_pictures.specs.Texts.{at_place, each_below, numbered}

-- one line more
pub below-more : (a b c : Option (List ℕ)) (n : ℕ) (line : ℕ → List ℕ) → Appends a b (each_below n line)
    → Appends b c (line n)
    → Appends a c (each_below (n + 1) line)
unfolding each_below
below-more a b c n line before more =
    let next : n + 1 ≡ suc n = omega arith in
    subst (λ (m : ℕ). Appends a c (each_below m line)) (sym next) (Appends-trans a b c (each_below n line) (line n)
    before more)

numbered-push : {X : Type 0} (line : ℕ → X → List ℕ) (k : ℕ) (xs : List X) (x : X)
    → numbered line k (xs ++ x ∷ []) ≡ numbered line k xs ++ line (k + length xs) x
unfolding numbered
numbered-push line k [] x = let here : k ≡ k + 0 = omega arith in append-nil (line k x) ∙ ap (λ (m : ℕ). line m x) here
numbered-push line k (y ∷ ys) x =
    let next : k + 1 + length ys ≡ k + suc (length ys) = omega arith in
    ap (λ (t : List ℕ). line k y ++ t) (numbered-push line (k + 1) ys x)
    ∙ sym (append_assoc (line k y) (numbered line (k + 1) ys) (line (k + 1 + length ys) x))
    ∙ ap (λ (m : ℕ). (line k y ++ numbered line (k + 1) ys) ++ line m x) next

-- the line of one item more, where each item is seen as `view` sees it
pub item-more : {X Y : Type 0} (view : X → Y) (line : ℕ → Y → List ℕ) (a b c : Option (List ℕ)) (xs : List X) (i : ℕ)
    (x : X)
    → i < length xs → get_or xs i x ≡ x → Appends a b (numbered line 0 (map view (take i xs)))
    → Appends b c (line i (view x))
    → Appends a c (numbered line 0 (map view (take (i + 1) xs)))
item-more view line a b c xs i x inside here before more =
    let taken : map view (take (i + 1) xs) ≡ map view (take i xs) ++ view x ∷ [] =
    map_more view xs i x inside ∙ ap (λ y. map view (take i xs) ++ view y ∷ []) here in
    let long : length (map view (take i xs)) ≡ i = length-map (take i xs) view
    ∙ length-take-le i xs (omega (arith, inside)) in
    let here' : i ≡ 0 + length (map view (take i xs)) = omega (arith, long) in
    subst (Appends a c)
    (ap (λ (m : ℕ). numbered line 0 (map view (take i xs)) ++ line m (view x)) here'
    ∙ sym (numbered-push line 0 (map view (take i xs)) (view x)) ∙ ap (numbered line 0) (sym taken))
    (Appends-trans a b c _ _ before more)

-- the same of items that are taken as they are
pub plain-more : {X : Type 0} (line : ℕ → X → List ℕ) (a b c : Option (List ℕ)) (xs : List X) (i : ℕ) (x : X)
    → i < length xs → get_or xs i x ≡ x → Appends a b (numbered line 0 (take i xs)) → Appends b c (line i x)
    → Appends a c (numbered line 0 (take (i + 1) xs))
plain-more line a b c xs i x inside here before more =
    let taken = take_more xs i x inside ∙ ap (λ y. take i xs ++ y ∷ []) here in
    let long : length (take i xs) ≡ i = length-take-le i xs (omega (arith, inside)) in
    let here' : i ≡ 0 + length (take i xs) = omega (arith, long) in
    subst (Appends a c)
    (ap (λ (m : ℕ). numbered line 0 (take i xs) ++ line m x) here' ∙ sym (numbered-push line 0 (take i xs) x)
    ∙ ap (numbered line 0) (sym taken))
    (Appends-trans a b c _ _ before more)

-- one sector more, where the track has it, and where it hasn't
pub place-more : {O : Type 0} (told : O → Option (List ℕ)) (line : Place → List ℕ) (place : ℕ → Option Place)
    (a : Option (List ℕ)) (before then now : O) (n : ℕ) (p : Place)
    → now ≡ then → place n ≡ Some p → Appends a (told before) (each_below n (λ s. at_place line (place s)))
    → Appends (told before) (told then) (line p)
    → Appends a (told now) (each_below (n + 1) (λ s. at_place line (place s)))
place-more told line place a before then now n p is here all more =
    subst (λ o. Appends a (told o) (each_below (n + 1) (λ s. at_place line (place s)))) (sym is)
    (below-more a (told before) (told then) n (λ s. at_place line (place s)) all
    (subst (Appends (told before) (told then)) (ap (at_place line) (sym here)) more))

pub no-place-more : {O : Type 0} (told : O → Option (List ℕ)) (line : Place → List ℕ) (place : ℕ → Option Place)
    (a : Option (List ℕ)) (before now : O) (n : ℕ)
    → now ≡ before → place n ≡ None → Appends a (told before) (each_below n (λ s. at_place line (place s)))
    → Appends a (told now) (each_below (n + 1) (λ s. at_place line (place s)))
no-place-more told line place a before now n is none all =
    subst (λ o. Appends a (told o) (each_below (n + 1) (λ s. at_place line (place s)))) (sym is)
    (below-more a (told before) (told before) n (λ s. at_place line (place s)) all
    (subst (Appends (told before) (told before)) (ap (at_place line) (sym none)) (Appends-nil (told before))))

-- nothing was printed so far
pub none-below : (a : Option (List ℕ)) (line : ℕ → List ℕ) → Appends a a (each_below 0 line)
unfolding each_below
none-below a line = Appends-nil a

pub no-items : {Y : Type 0} (line : ℕ → Y → List ℕ) (a : Option (List ℕ)) (ys : List Y) → ys ≡ []
    → Appends a a (numbered line 0 ys)
unfolding numbered
no-items line a ys none = subst (λ xs. Appends a a (numbered line 0 xs)) (sym none) (Appends-nil a)

-- three texts, one after another
pub three : (a b c d : Option (List ℕ)) (x y z : List ℕ) → Appends a b x → Appends b c y → Appends c d z
    → Appends a d (x ++ (y ++ z))
three a b c d x y z first second third = Appends-trans a b d x (y ++ z) first (Appends-trans b c d y z second third)

-- a character of ASCII is its own byte
pub ascii : (c : ℕ) → c < 128 → encode_utf8 c ≡ c ∷ []
unfolding encode_utf8
ascii c small = rw (lt-ltb c 128 small) refl

-- four texts, one after another
pub four : (a b c d e : Option (List ℕ)) (x y z u : List ℕ) → Appends a b x → Appends b c y → Appends c d z
    → Appends d e u
    → Appends a e (x ++ (y ++ (z ++ u)))
four a b c d e x y z u first second third last = Appends-trans a b e x (y ++ (z ++ u)) first
    (three b c d e y z u second third last)

-- the lines of all
pub all-below : (a b : Option (List ℕ)) (n m : ℕ) (line : ℕ → List ℕ) → n ≡ m → Appends a b (each_below n line)
    → Appends a b (each_below m line)
all-below a b n m line all lines = subst (λ (k : ℕ). Appends a b (each_below k line)) all lines

-- lines after a beginning: none so far, one more, and all with an end
pub begun : (a b : Option (List ℕ)) (head : List ℕ) (line : ℕ → List ℕ) → Appends a b head
    → Appends a b (head ++ each_below 0 line)
unfolding each_below
begun a b head line first = subst (Appends a b) (sym (append-nil head)) first

pub begun-more : (a b c : Option (List ℕ)) (head : List ℕ) (n : ℕ) (line : ℕ → List ℕ)
    → Appends a b (head ++ each_below n line) → Appends b c (line n)
    → Appends a c (head ++ each_below (n + 1) line)
unfolding each_below
begun-more a b c head n line before more =
    let next : n + 1 ≡ suc n = omega arith in
    subst (λ (m : ℕ). Appends a c (head ++ each_below m line)) (sym next)
    (subst (Appends a c) (append_assoc head (each_below n line) (line n))
    (Appends-trans a b c (head ++ each_below n line) (line n) before more))

pub ended : (a b c : Option (List ℕ)) (head end : List ℕ) (n m : ℕ) (line : ℕ → List ℕ) → n ≡ m
    → Appends a b (head ++ each_below n line) → Appends b c end
    → Appends a c (head ++ (each_below m line ++ end))
ended a b c head end n m line all before last =
    subst (λ (k : ℕ). Appends a c (head ++ (each_below k line ++ end))) all
    (subst (Appends a c) (append_assoc head (each_below n line) end)
    (Appends-trans a b c (head ++ each_below n line) end before last))

-- the same, where the texts aren't numbered
pub begun-flat : {X : Type 0} (line : X → List ℕ) (a b : Option (List ℕ)) (head : List ℕ) → Appends a b head
    → Appends a b (head ++ flat_map line [])
begun-flat line a b head first = subst (Appends a b) (sym (append-nil head)) first

pub begun-flat-more : {X : Type 0} (line : X → List ℕ) (a b c : Option (List ℕ)) (head : List ℕ) (xs : List X) (i : ℕ)
    (x : X)
    → i < length xs → get_or xs i x ≡ x → Appends a b (head ++ flat_map line (take i xs)) → Appends b c (line x)
    → Appends a c (head ++ flat_map line (take (i + 1) xs))
begun-flat-more line a b c head xs i x inside here before more =
    let taken = take_more xs i x inside ∙ ap (λ y. take i xs ++ y ∷ []) here in
    subst (Appends a c)
    (flat_map_more line head (take i xs) x ∙ ap (λ ys. head ++ flat_map line ys) (sym taken))
    (Appends-trans a b c _ _ before more)

pub ended-flat : {X : Type 0} (line : X → List ℕ) (a b c : Option (List ℕ)) (head end : List ℕ) (xs ys : List X)
    → xs ≡ ys → Appends a b (head ++ flat_map line xs) → Appends b c end
    → Appends a c (head ++ (flat_map line ys ++ end))
ended-flat line a b c head end xs ys all before last =
    subst (λ zs. Appends a c (head ++ (flat_map line zs ++ end))) all
    (subst (Appends a c) (append_assoc head (flat_map line xs) end)
    (Appends-trans a b c (head ++ flat_map line xs) end before last))

-- one sector more after a beginning, where the track has it, and where it hasn't
pub begun-place-more : {O : Type 0} (told : O → Option (List ℕ)) (line : Place → List ℕ) (place : ℕ → Option Place)
    (a : Option (List ℕ)) (head : List ℕ) (before then now : O) (n : ℕ) (p : Place)
    → now ≡ then → place n ≡ Some p → Appends a (told before) (head ++ each_below n (λ s. at_place line (place s)))
    → Appends (told before) (told then) (line p)
    → Appends a (told now) (head ++ each_below (n + 1) (λ s. at_place line (place s)))
begun-place-more told line place a head before then now n p is here all more =
    subst (λ o. Appends a (told o) (head ++ each_below (n + 1) (λ s. at_place line (place s)))) (sym is)
    (begun-more a (told before) (told then) head n (λ s. at_place line (place s)) all
    (subst (Appends (told before) (told then)) (ap (at_place line) (sym here)) more))

pub begun-no-place : {O : Type 0} (told : O → Option (List ℕ)) (line : Place → List ℕ) (place : ℕ → Option Place)
    (a : Option (List ℕ)) (head : List ℕ) (before now : O) (n : ℕ)
    → now ≡ before → place n ≡ None → Appends a (told before) (head ++ each_below n (λ s. at_place line (place s)))
    → Appends a (told now) (head ++ each_below (n + 1) (λ s. at_place line (place s)))
begun-no-place told line place a head before now n is none all =
    subst (λ o. Appends a (told o) (head ++ each_below (n + 1) (λ s. at_place line (place s)))) (sym is)
    (begun-more a (told before) (told before) head n (λ s. at_place line (place s)) all
    (subst (Appends (told before) (told before)) (ap (at_place line) (sym none)) (Appends-nil (told before))))

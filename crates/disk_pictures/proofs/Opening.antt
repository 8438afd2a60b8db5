-- Whether one of several is so, looked at one after another; and a text that is long, by a part of it.
use Rattle.std.proofs.Common.{◌≡◌, ◌<◌, ◌+◌, ℕ, suc, Bool, true, false, List, ◌∷◌, ◌++◌, drop, get_or}
use Rattle.std.proofs.Common.{length, take, refl, sym, ap, ◌∙◌, arith, slice_index_or}
use Rattle.std.specs.Prelude.{◌||◌, flat_map}
use Rattle.std.proofs.lemmas.Bool.{false≢true, lt-ltb}
use Rattle.std.proofs.lemmas.Grind.{flat_map-append}
use Rattle.std.proofs.lemmas.List.{drop_more, length-append, take-append-drop}
use Rattle.disk_pictures.specs.Html.{html_byte, is_long}
use Rattle.disk_pictures.specs.Texts.{any_below}

pub any-none : (test : ℕ → Bool) → false ≡ any_below 0 test
unfolding any_below
any-none test = refl

pub or-first : (a b n : Bool) → a ≡ true → n ≡ true → n ≡ (a || b)
or-first true b n e h = h
or-first false b n e h = absurd (false≢true e)

pub or-second : (a b n : Bool) → a ≡ false → n ≡ b → n ≡ (a || b)
or-second false b n e h = h
or-second true b n e h = absurd (false≢true (sym e))

pub any-more : (n : ℕ) (test : ℕ → Bool) (found here next : Bool) → found ≡ any_below n test → here ≡ test n
    → next ≡ (found || here) → next ≡ any_below (n + 1) test
unfolding any_below
any-more n test found here next before now is =
    let e : suc n ≡ n + 1 = omega arith in
    is ∙ ap (λ (a : Bool). a || here) before ∙ ap (λ (b : Bool). any_below n test || b) now
    ∙ ap (λ (m : ℕ). any_below m test) e

pub any-all : (n m : ℕ) (test : ℕ → Bool) (found : Bool) → n ≡ m → found ≡ any_below n test → found ≡ any_below m test
any-all n m test found e before = before ∙ ap (λ (k : ℕ). any_below k test) e

-- the text of the bytes up to this one takes more than 48
pub part-long : (bytes : List ℕ) (i count more : ℕ) → i < length bytes
    → count ≡ length (flat_map html_byte (take i bytes)) → more ≡ length (html_byte (slice_index_or bytes i 0))
    → 48 < count + more → true ≡ is_long bytes
part-long bytes i count more inside before now long =
    let rest = drop (i + 1) bytes in
    let b = get_or bytes i 0 in
    let split : take i bytes ++ (b ∷ rest) ≡ bytes =
    ap (λ (bs : List ℕ). take i bytes ++ bs) (sym (drop_more bytes i 0 inside)) ∙ take-append-drop i bytes in
    let whole = ap length (ap (flat_map html_byte) (sym split) ∙ flat_map-append html_byte (take i bytes) (b ∷ rest)) in
    let parts = length-append (flat_map html_byte (take i bytes)) (html_byte b ++ flat_map html_byte rest) in
    let last = length-append (html_byte b) (flat_map html_byte rest) in
    sym (lt-ltb 48 (length (flat_map html_byte bytes)) (omega (arith, whole, parts, last, before, now, long)))

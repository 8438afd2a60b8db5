-- A fresh disk is a shop, on which a script has the replies of the dry run.
use Rattle.std.proofs.Common.{ℕ, zero, suc, ◌≡◌, ◌≢◌, ◌+◌, List, [], ◌∷◌, ◌++◌, Bool, true, false, None, Option, Some}
use Rattle.std.proofs.Common.{ap, append-nil, arith, length, lit≤, refl, subst, sym, ◌∙◌}
use Rattle.std.specs.Prelude.{◌↔◌, if◌then◌else◌, option_map, slice_index}
use Rattle.std.proofs.lemmas.Bool.{eq-eqb, ne_eqb, true≢false}
use Rattle.std.proofs.lemmas.Option.{none-some}
use Rattle.d64_image.specs.Chunks.{length-bytes_of, sectors_in-bytes_of}
use Rattle.d64_image.specs.History.{History}
use Rattle.d64_image.specs.Images.{Image}
use Rattle.d64_image.specs.Memory.{sectors_in}
use Rattle.disk_layout.specs.BlankLayout.{blank_top}
use Rattle.host_session.proofs.lemmas.runs.PlainRuns.{plain_played}
use Rattle.host_session.proofs.lemmas.shop.BlankShops.{blank-shop}
use Rattle.host_session.proofs.lemmas.shop.Shops.{IsShop-one}
use Rattle.host_session.specs.events.Events.{HasNoReset}
use Rattle.host_session.specs.shop.Shop.{Shop, start_of}
use Rattle.request_cards.specs.Ledgers.{nothing, replies, report}
use Rattle.line_text.specs.scripts.Lines.{first_reset, is_reset, lines}
use Rattle.shop_commands.specs.FreshShops.{DryBeginsFresh, DryTellsReplies, FreshBytesAreADisk, FreshIsAShop}
use Rattle.shop_commands.specs.FreshShops.{FreshShowsItsTop, RunTellsDry, SamePlainScripts, fresh_shop}
use Rattle.shop_commands.specs.Images.{IsFreshDisk}
use Rattle.shop_commands.specs.Shows.{shown_shop, till_lines, top_line, up_to}

pub bytes-disk : FreshBytesAreADisk
bytes-disk tills bytes are =
    let same : sectors_in bytes ≡ are.disk
    = ap sectors_in are.bytes_of ∙ sectors_in-bytes_of are.disk are.fresh.whole in
    let Fresh : Image → Type 0 = λ img. IsFreshDisk img tills in record {
      size = ap length are.bytes_of ∙ length-bytes_of are.disk are.fresh.whole;
      disk = subst Fresh (sym same) are.fresh;
    }

pub fresh-shop : FreshIsAShop
fresh-shop tills img some few fresh = blank-shop fresh.zeros img _ _ tills some few fresh.whole fresh.blank

-- where no number has a line there is none
no-lines : (n : ℕ) → up_to n (λ _. []) ≡ []
unfolding up_to
no-lines zero = refl
no-lines (suc n) = ap (λ ls. ls ++ []) (no-lines n)

nothing-shown : (top : ℕ) → shown_shop top nothing ≡ top_line top
unfolding shown_shop
nothing-shown top =
    ap (λ ls. top_line top ++ (ls ++ till_lines nothing)) (no-lines 10160)
    ∙ ap (λ ls. top_line top ++ ls) (no-lines 64)
    ∙ append-nil (top_line top)

pub fresh-shown : FreshShowsItsTop
fresh-shown tills img s some few fresh shop =
    let same = IsShop-one img s (fresh_shop tills) shop (fresh-shop tills img some few fresh).shop in
    ap (λ (t : Shop). shown_shop t.top t.state) same ∙ nothing-shown (blank_top tills)

pub dry-begins : DryBeginsFresh
dry-begins img s fresh shop =
    ap start_of (IsShop-one img s (fresh_shop 64) shop (fresh-shop 64 img (lit≤ tt) (lit≤ tt) fresh).shop)

pub dry-tells : DryTellsReplies
dry-tells img s script fresh shop =
    ap (λ start. report (replies start [] (lines script))) (sym (dry-begins img s fresh shop))

-- a line that begins with @ is a reset
reset-is : (line : List ℕ) → (is_reset line ≡ false) ↔ (slice_index line 0 ≢ 64)
reset-is [] = (λ _ e. absurd (let z : 0 ≡ 64 = e in omega (arith, z)), λ _. refl)
reset-is (b ∷ bs) = (λ other e. absurd (true≢false (sym (eq-eqb b 64 e) ∙ other)), λ ne. ne_eqb b 64 ne)

none-reset : (ls : List (List ℕ)) → (first_reset ls ≡ None) ↔ HasNoReset ls
none-reset [] = (λ _. tt, λ _. refl)
none-reset (l ∷ ls) =
    let (here, back) = reset-is l in
    let (all, none) = none-reset ls in
    pick (is_reset l) (first_reset ls) here back all none
  where
    pick : (t : Bool) (o : Option ℕ) → (t ≡ false → slice_index l 0 ≢ 64) → (slice_index l 0 ≢ 64 → t ≡ false)
        → (o ≡ None → HasNoReset ls) → (HasNoReset ls → o ≡ None)
        → ((if t then Some 1 else option_map (λ n. n + 1) o) ≡ None) ↔ HasNoReset (l ∷ ls)
    pick true o here back all none = (λ e. absurd (none-some 1 (sym e)), λ h. absurd (true≢false (back h.0)))
    pick false None here back all none = (λ e. (here refl, all refl), λ h. refl)
    pick false (Some n) here back all none =
        (λ e. absurd (none-some (n + 1) (sym e)), λ h. absurd (none-some n (sym (none h.1))))

pub same-scripts : SamePlainScripts
same-scripts script = none-reset (lines script)

pub run-tells : {D : Type 0} (h : History D) → RunTellsDry h
run-tells h old new s script told fresh shop none played =
    let told_is = (plain_played h s (lines script) old new told ((same-scripts script).0 none) played).0 in
    ap report told_is ∙ sym (dry-tells (h.image old) s script fresh shop)

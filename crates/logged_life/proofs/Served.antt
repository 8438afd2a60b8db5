-- Each service keeps the list of lines.
use Rattle.std.proofs.Common.{◌≡◌, ◌∙◌, ◌≤◌, ◌+◌, ◌⊎◌, ⊎_elim, ℕ, List, [], ◌∷◌, ◌++◌, Err, Ok, Result, ap, append-nil, arith}
use Rattle.std.proofs.Common.{inl, inr, length, refl, subst, sym}
use Rattle.std.specs.Prelude.{option_to_list}
use Rattle.std.proofs.lemmas.List.{length-append, length-map}
use Rattle.d64_image.specs.Images.{Image}
use Rattle.d64_image.specs.Memory.{disk_image}
use Rattle.d64_image.specs.declared.mem_disk.MemDisk.{MemDisk}
use Rattle.host_session.specs.declared.runs.event_loop.LoopFault.{LoopFault}
use Rattle.host_session.specs.runs.Chains.{told_in}
use Rattle.host_session.specs.shop.Shop.{IsSettled, IsShop, Shop, start_of}
use Rattle.image_log.specs.ImageLogs.{LeavesImages, LogHistory}
use Rattle.line_server.proofs.lemmas.logged.Lines.{behind_more, behind_none}
use Rattle.line_server.proofs.lemmas.logged.UnderWay.{as_many_replies}
use Rattle.line_server.specs.Batches.{BatchInput}
use Rattle.line_server.specs.logged.Handling.{shop_after}
use Rattle.line_server.specs.logged.Reporting.{LogOutput}
use Rattle.line_server.specs.logged.Serves.{HoldsFirst, IfKept, shop_behind}
use Rattle.line_text.specs.scripts.Lines.{lines}
use Rattle.logged_life.proofs.Fronts.{Front, of_first, of_none, with_told}
use Rattle.logged_life.specs.Services.{AreKept, EndsWith, HasOneList, IsBehindSome, IsLife, KeepAll, Keeps, May, Service}
use Rattle.request_cards.specs.declared.reply.Reply.{Reply}

-- the shop after lines, and after more lines
behind_behind : (s : Shop) (before ls : List (List ℕ)) → shop_behind (shop_behind s before) ls ≡ shop_behind s (before ++ ls)
behind_behind s before ls =
    sym (behind_more (shop_behind s before) [] ls)
    ∙ ap (λ t. shop_after t ls) (behind_none (shop_behind s before))
    ∙ behind_more s before ls

-- each line counts
kept_all : {L : Type 0} (h : LogHistory L) (at n k : ℕ) (xs : List (Reply × L)) → k + length xs ≤ n → AreKept h at n k xs
kept_all h at n k [] le = tt
kept_all h at n k (x ∷ xs) le = ((λ before. omega (arith, le)), kept_all h at n (k + 1) xs (omega (arith, le)))

-- the disk with which a service ended
ended_with : (r : Result MemDisk (LoopFault × MemDisk)) (d : MemDisk) (P : MemDisk → Type 0) → EndsWith r d → IfKept r P
    → P d
ended_with (Ok e) d P is p = subst P is p
ended_with (Err e) d P is p = subst P is.0 (p is.1)

module _ {L R T : Type 0} (h : LogHistory L) (i : BatchInput R) (o : LogOutput L T) where
  module _ (s : Shop) (before : List (List ℕ)) (image : Image) (x : Service L R T) (may : May h i o image x)
      (shop : IsShop image (shop_behind s before)) where
    abbrev Here : Shop
    Here = shop_behind s before

    abbrev Ls : List (List ℕ)
    Ls = lines may.served.handled

    abbrev Turns : List (Reply × L)
    Turns = may.served.turns ++ option_to_list may.served.last

    on_disk : IsShop (disk_image x.disk) Here
    on_disk = subst (λ c. IsShop c Here) (sym may.disk) shop

    few_told : length Turns ≤ length Ls
    few_told =
        let first = may.served.replies_are Here on_disk in
        omega (
          arith,
          ap length first.1,
          length-append (told_in Turns) first.0,
          length-map Turns (λ t. t.0),
          as_many_replies Here Ls,
        )

    weaker : (P Q : Image → Type 0) → ((c : Image) → P c → Q c) → LeavesImages h x.old x.new P
        → LeavesImages h x.old x.new Q
    weaker P Q f y = record {
      later = y.later;
      each = λ c left. f c (y.each c left);
      before = λ t c le left. ⊎_elim (λ z. inl z) (λ z. inr (f c z)) (y.before t c le left);
    }

    -- what power leaves at any moment
    some_behind : (c : Image) → (c ≡ disk_image x.disk) ⊎ HoldsFirst Here Ls 0 c → IsBehindSome s before Ls c
    some_behind c (inl e) = (
      [],
      Ls,
      refl,
      subst (λ ls. IsShop c (shop_behind s ls)) (sym (append-nil before))
          (subst (λ j. IsShop j Here) (sym e) on_disk),
    )
    some_behind c (inr y) = (y.front, y.rest, y.parts, subst (IsShop c) (behind_behind s before y.front) y.rests.shop)

    keeps : (own rest : List (List ℕ)) → own ++ rest ≡ Ls → AreKept h x.at (length own) 0 Turns
        → IsShop x.next (shop_behind Here own) → Keeps h i o s before image x may own
    keeps own rest parts kept next = record {
      rest = rest;
      parts = parts;
      kept = kept;
      told = may.served.replies_are Here on_disk;
      held = weaker (λ c. (c ≡ disk_image x.disk) ⊎ HoldsFirst Here Ls 0 c) (IsBehindSome s before Ls) some_behind
          (may.served.safe Here on_disk may.stood).any_moment;
      at = subst (IsShop x.next) (behind_behind s before own) next;
    }

    ended : (d : MemDisk) → EndsWith x.result d → x.next ≡ disk_image d
        → (own : List (List ℕ)) × Keeps h i o s before image x may own
    ended d ends is = (
      Ls,
      keeps Ls [] (append-nil Ls) (kept_all h x.at (length Ls) 0 Turns (omega (arith, few_told)))
          (subst (λ c. IsShop c (shop_behind Here Ls)) (sym is)
          (ended_with x.result d (λ d. IsSettled (disk_image d) (shop_behind Here Ls)
          × (h.stands_for x.old (disk_image x.disk) → h.stands_for x.new (disk_image d))) ends
          (may.served.rests Here on_disk)).0.shop),
    )

    lost : h.moment x.old ≤ x.at → ((t : ℕ) → t ≤ x.at → h.left_since x.new t x.next)
        → (own : List (List ℕ)) × Keeps h i o s before image x may own
    lost began left =
        let safe = may.served.safe Here on_disk may.stood in
        let first : Front Here Ls 0 x.next = ⊎_elim
        (λ same. of_none Here Ls x.next (subst (λ c. IsShop c Here) (sym same) on_disk))
        (λ y. of_first Here Ls 0 x.next y)
        (safe.any_moment.each x.next (left (h.moment x.old) began)) in
        let by = with_told h Here Ls x.new x.at x.next left 0 0 (omega arith) Turns safe.told_stays first in
        (by.0.front, keeps by.0.front by.0.rest by.0.parts by.1 by.0.shop)

    step : (own : List (List ℕ)) × Keeps h i o s before image x may own
    step = ⊎_elim (λ e. ended e.0 e.1 e.2) (λ l. lost l.0 l.1) may.left

  all_keep : (s : Shop) (before : List (List ℕ)) (image : Image) (xs : List (Service L R T))
      (life : IsLife h i o image xs) → IsShop image (shop_behind s before)
      → (parts : List (List (List ℕ))) × KeepAll h i o s before image xs life parts
  all_keep s before image [] life shop = ([], tt)
  all_keep s before image (x ∷ xs) life shop =
      let first = step s before image x life.0 shop in
      let more = all_keep s (before ++ first.0) x.next xs life.1 first.1.at in
      (first.0 ∷ more.0, (first.1, more.1))

  pub has_one_list : (s : Shop) (image : Image) (xs : List (Service L R T)) (life : IsLife h i o image xs)
      → IsShop image s → HasOneList h i o s image xs life
  has_one_list s image xs life shop = all_keep s [] image xs life (subst (IsShop image) (sym (behind_none s)) shop)

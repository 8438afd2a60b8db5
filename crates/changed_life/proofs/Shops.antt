-- A shop whose two files have the records that they had.
use Rattle.std.proofs.Common.{◌≡◌, ◌+◌, ◌-◌, ◌/◌, ◌∙◌, ℕ, List, ◌∷◌, ap, arith, length, refl, subst, sym}
use Rattle.std.specs.Prelude.{Some, codes, slice_get}
use Rattle.d64_image.specs.Images.{Image}
use Rattle.disk_layout.proofs.lemmas.blank.FreeAndOwned.{others-most}
use Rattle.disk_layout.proofs.lemmas.layouts.Layouts.{IsLayout-one}
use Rattle.disk_layout.specs.Layout.{File, IsLayout, Layout, owners}
use Rattle.disk_layout.specs.Chain.{EachOnce}
use Rattle.disk_layout.specs.Directory.{map_place}
use Rattle.disk_layout.specs.Rest.{IsFirst, rest_of, taken_by_others}
use Rattle.disk_layout.specs.Room.{IsTop}
use Rattle.host_session.proofs.lemmas.judging.Search.{top-of}
use Rattle.host_session.specs.shop.Files.{Files, HasFiles}
use Rattle.host_session.specs.shop.Shop.{Shop, shop_of}
use Rattle.request_cards.specs.Trade.{last_card}
use Rattle.changed_life.specs.Changes.{KeepsRecords, KeepsShops}

abbrev Fitting : Layout → ℕ → ℕ
Fitting l n = 664 - taken_by_others l n

-- each file of a layout has a top
top-there : (l : Layout) (n : ℕ) (f : File) → slice_get l.files n ≡ Some f → EachOnce (map_place ∷ owners l)
    → IsTop l n (last_card (Fitting l n - (Fitting l n + 120) / 121))
top-there l n f there once =
    let most = others-most l n f there once in top-of l n (Fitting l n) (omega (arith, most))

pub kept-shop : (old new : Image) (l m : Layout) → IsLayout old l → IsLayout new m
    → KeepsRecords old new l m (codes "STOCK") 18 → KeepsRecords old new l m (codes "REQUESTS") 127 → KeepsShops old new
kept-shop old new l m was is stock requests s shop =
    let f : Files = shop.files in
    let h : HasFiles old f = shop.has in
    let same : h.layout ≡ l = IsLayout-one old h.layout l h.is_layout was in
    let first : (name : List ℕ) (n : ℕ) (x : File) → IsFirst h.layout name n x → IsFirst l name n x =
    λ name n x. subst (λ (k : Layout). IsFirst k name n x) same in
    let a = stock h.stock_place h.stock_file (first (codes "STOCK") h.stock_place h.stock_file h.stock_first) h.stock_length in
    let b = requests h.requests_place h.requests_file
    (first (codes "REQUESTS") h.requests_place h.requests_file h.requests_first)
    h.requests_length in
    let g : Files = record {
      stock = f.stock;
      requests = f.requests;
      blocks = length a.1.blocks;
      rest = rest_of new m a.0 b.0 b.1;
      top = last_card (Fitting m a.0 - (Fitting m a.0 + 120) / 121);
    } in
    let has : HasFiles new g = record {
      layout = m;
      is_layout = is;
      stock_place = a.0;
      requests_place = b.0;
      stock_file = a.1;
      requests_file = b.1;
      stock_first = a.2;
      requests_first = b.2;
      stock_length = a.3;
      requests_length = b.3;
      stock = h.stock ∙ sym a.4;
      requests = h.requests ∙ sym b.4;
      blocks = refl;
      rest = refl;
      top = top-there m a.0 a.1 a.2.file is.once;
    } in (
      shop_of g,
      record { files = g; has = has; records = shop.records; is = refl },
      (ap (λ (t : Shop). t.state) shop.is, ap (λ (t : Shop). t.tills) shop.is),
    )

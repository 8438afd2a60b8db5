-- From the words of record calls to the two files of a ledger: what a call on STOCK, or on REQUESTS, leaves of both.
use Rattle.std.proofs.Common.{◌≡◌, ℕ, not, List, length, drop, map, refl, sym, ◌∙◌, ap, arith}
use Rattle.std.specs.Prelude.{Some, codes, filter, flat_map, nat_eq, slice_get}
use Rattle.std.proofs.lemmas.Option.{same_Some}
use Rattle.d64_image.specs.Images.{Image, sector}
use Rattle.d64_image.specs.declared.place.Place.{Place}
use Rattle.disk_layout.proofs.lemmas.counts.Counts.{uncounted-face}
use Rattle.disk_layout.specs.Entries.{uncounted}
use Rattle.disk_layout.specs.Layout.{File, file_owns}
use Rattle.disk_layout.specs.Records.{records}
use Rattle.disk_layout.specs.Rest.{kept_of, others, rest_of, taken_by_others}
use Rattle.rel_records.specs.Others.{HasRecords}
use Rattle.host_session.specs.shop.Files.{Files, HasFiles}
use Rattle.host_session.proofs.lemmas.writing.SameEntries.{apart, entries-long, entry-at, first-kept, kept-others}
use Rattle.host_session.proofs.lemmas.writing.SameEntries.{others-same, owned-same, records-same, top-kept}

module _ (old new : Image) (f : Files) (h : HasFiles old f) (rs : List (List ℕ)) where
  -- a call on STOCK: its records are these, and all else is as it was
  pub on-stock : (x : HasRecords old new h.layout h.stock_place rs)
      → HasFiles new (record f { stock = rs; blocks = length x.file.blocks })
  unfolding rest_of taken_by_others
  on-stock x =
      let l = h.layout in
      let m = x.layout in
      let o = x.others in
      let ne = apart l h.stock_place h.requests_place h.stock_file h.requests_file h.stock_first h.requests_first in
      let there : slice_get m.files h.requests_place ≡ Some h.requests_file =
      o.files h.requests_place h.requests_file (λ e. ne (sym e)) h.requests_first.file in
      let bytes : map (sector new) h.requests_file.blocks ≡ map (sector old) h.requests_file.blocks =
      o.bytes h.requests_place h.requests_file (λ e. ne (sym e)) h.requests_first.file in
      let requests : records new h.requests_file ≡ records old h.requests_file =
      records-same old new h.requests_file bytes in
      let long = entries-long l.files m.files o.entries in
      let entry = entry-at l.files m.files o.entries h.stock_place x.file x.there in
      let slot : uncounted x.file.slot ≡ uncounted h.stock_file.slot
      = entry.2 ∙ ap (λ (y : File). uncounted y.slot) (same_Some entry.0 h.stock_file (sym entry.1
      ∙ h.stock_first.file)) in
      let pair : others h.stock_place h.requests_place 0 m.files ≡ others h.stock_place h.requests_place 0 l.files
      = others-same h.stock_place h.requests_place 0 l.files m.files long
      (λ k g na nb at. o.files k g (λ d. na (omega (arith, d))) at) in
      let kept : map (kept_of new) (others h.stock_place h.requests_place 0 l.files) ≡ map (kept_of old)
      (others h.stock_place h.requests_place 0 l.files)
      = kept-others h.stock_place h.requests_place old new 0 l.files
      (λ k g na nb at. o.bytes k g (λ d. na (omega (arith, d))) at) in
      let same : rest_of old l h.stock_place h.requests_place h.requests_file ≡ rest_of new m h.stock_place
      h.requests_place h.requests_file
      = λ i. record {
        files = sym (ap (map (kept_of new)) pair ∙ kept) i;
        header = sym o.header i;
        count = length (sym requests i);
        past = drop 64 (sym requests i);
      } in
      let alone : taken_by_others m h.stock_place ≡ taken_by_others l h.stock_place
      = ap (λ (gs : List File). length (filter (λ (p : Place). not (nat_eq p.track 18)) (flat_map file_owns gs)))
      (others-same h.stock_place h.stock_place 0 l.files m.files long
      (λ k g na nb at. o.files k g (λ d. na (omega (arith, d))) at)) in
      record {
        layout = m;
        is_layout = x.is_layout;
        stock_place = h.stock_place;
        requests_place = h.requests_place;
        stock_file = x.file;
        requests_file = h.requests_file;
        stock_first = first-kept l m (codes "STOCK") h.stock_place h.stock_file x.file o.entries h.stock_first x.there;
        requests_first = first-kept l m (codes "REQUESTS") h.requests_place h.requests_file h.requests_file o.entries
            h.requests_first there;
        stock_length = (uncounted-face x.file.slot h.stock_file.slot slot).length ∙ h.stock_length;
        requests_length = h.requests_length;
        stock = sym x.records;
        requests = h.requests ∙ sym requests;
        blocks = refl;
        rest = h.rest ∙ same;
        top = top-kept l m h.stock_place f.top alone h.top;
      }

  -- a call on REQUESTS that adds no record: its records are these, those past 64 are as they were, and it has the
  -- sectors that it had
  pub on-requests : (x : HasRecords old new h.layout h.requests_place rs) → file_owns x.file ≡ file_owns h.requests_file
      → length rs ≡ length f.requests → drop 64 rs ≡ drop 64 f.requests
      → HasFiles new (record f { requests = rs })
  unfolding rest_of taken_by_others
  on-requests x owns long past =
      let l = h.layout in
      let m = x.layout in
      let o = x.others in
      let ne = apart l h.stock_place h.requests_place h.stock_file h.requests_file h.stock_first h.requests_first in
      let there : slice_get m.files h.stock_place ≡ Some h.stock_file =
      o.files h.stock_place h.stock_file ne h.stock_first.file in
      let bytes : map (sector new) h.stock_file.blocks ≡ map (sector old) h.stock_file.blocks =
      o.bytes h.stock_place h.stock_file ne h.stock_first.file in
      let stock : records new h.stock_file ≡ records old h.stock_file = records-same old new h.stock_file bytes in
      let many = entries-long l.files m.files o.entries in
      let entry = entry-at l.files m.files o.entries h.requests_place x.file x.there in
      let slot : uncounted x.file.slot ≡ uncounted h.requests_file.slot
      = entry.2 ∙ ap (λ (y : File). uncounted y.slot) (same_Some entry.0 h.requests_file (sym entry.1
      ∙ h.requests_first.file)) in
      let pair : others h.stock_place h.requests_place 0 m.files ≡ others h.stock_place h.requests_place 0 l.files
      = others-same h.stock_place h.requests_place 0 l.files m.files many
      (λ k g na nb at. o.files k g (λ d. nb (omega (arith, d))) at) in
      let kept : map (kept_of new) (others h.stock_place h.requests_place 0 l.files) ≡ map (kept_of old)
      (others h.stock_place h.requests_place 0 l.files)
      = kept-others h.stock_place h.requests_place old new 0 l.files
      (λ k g na nb at. o.bytes k g (λ d. nb (omega (arith, d))) at) in
      let same : rest_of old l h.stock_place h.requests_place h.requests_file ≡ rest_of new m h.stock_place
      h.requests_place x.file
      = λ i. record {
        files = sym (ap (map (kept_of new)) pair ∙ kept) i;
        header = sym o.header i;
        count = (ap length (sym h.requests) ∙ sym long ∙ ap length (sym x.records)) i;
        past = (ap (drop 64) (sym h.requests) ∙ sym past ∙ ap (drop 64) (sym x.records)) i;
      } in
      let alone : taken_by_others m h.stock_place ≡ taken_by_others l h.stock_place
      = ap (λ (ps : List Place). length (filter (λ (p : Place). not (nat_eq p.track 18)) ps))
      (owned-same h.stock_place h.requests_place 0 l.files m.files many
      (λ k g d at. o.files k g (λ e. d (omega (arith, e))) at)
      (λ k g d at. (
        x.file,
        ap (slice_get m.files) (omega (arith, d)) ∙ x.there,
        owns
            ∙ ap file_owns (same_Some h.requests_file g (sym h.requests_first.file
            ∙ ap (slice_get l.files) (omega (arith, d)) ∙ at)),
      ))) in
      record {
        layout = m;
        is_layout = x.is_layout;
        stock_place = h.stock_place;
        requests_place = h.requests_place;
        stock_file = h.stock_file;
        requests_file = x.file;
        stock_first = first-kept l m (codes "STOCK") h.stock_place h.stock_file h.stock_file o.entries h.stock_first
            there;
        requests_first = first-kept l m (codes "REQUESTS") h.requests_place h.requests_file x.file o.entries
            h.requests_first x.there;
        stock_length = h.stock_length;
        requests_length = (uncounted-face x.file.slot h.requests_file.slot slot).length ∙ h.requests_length;
        stock = h.stock ∙ sym stock;
        requests = sym x.records;
        blocks = h.blocks;
        rest = h.rest ∙ same;
        top = top-kept l m h.stock_place f.top alone h.top;
      }

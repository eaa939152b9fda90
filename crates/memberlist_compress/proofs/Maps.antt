-- The map of a compression that is written holds the compressed bytes.
use Rattle.std.proofs.Common.{◌≡◌, ℕ, ◌^◌, ◌<◌, ◌≤◌, Bool, true, false, cond, ltb, List, [], ◌∷◌, ◌++◌, length, codes, refl, sym, ap, ◌∙◌}
use Rattle.std.proofs.Common.{append_assoc, append-nil, arith}
use Rattle.std.specs.List.{IsDistinct}
use Rattle.std.proofs.lemmas.Bool.{ltb-true}
use Rattle.std.proofs.lemmas.List.{length-append}
use Rattle.byteorder.specs.Endian.{big_number, big_bytes}
use Rattle.byteorder.specs.Numbers.{big_number-reads_back, length-bytes_high_first}
use Rattle.swim_pack.specs.Spelling.{IsBig, RawLen as raws, Raw, raw_text, number_text, count_text}
use Rattle.swim_pack.proofs.Canonical.{number_text_is, raw_text_is, count_text_is}
use Rattle.swim_wire.specs.Layout.{PairText}
use Rattle.swim_wire.specs.Layout.Spelled.{number, raw}
use Rattle.swim_wire.specs.Compression.{compression_layout, CompressionText}
use Rattle.memberlist_compress.specs.Compressed.{raw_bytes, map_bytes}

-- a number of 4 bytes after a first one
big_four : (first v : ℕ) → v < 2 ^ 32 → IsBig first 4 (first ∷ big_bytes 4 v) v
big_four first v below = record {
  digits = big_bytes 4 v;
  size = length-bytes_high_first 4 v;
  text = refl;
  value = sym (ap (big_number 4) (sym (append-nil (big_bytes 4 v))) ∙ big_number-reads_back 4 v [] (omega arith));
}

raw_bytes_by : (s : List ℕ) (is_short : Bool) → ltb (length s) (2 ^ 16) ≡ is_short → length s < 2 ^ 32
    → Raw (cond is_short (raw_text s) ((0xdb ∷ big_bytes 4 (length s)) ++ s)) s
raw_bytes_by s true is below = raw_text_is s (ltb-true _ _ is)
raw_bytes_by s false is below = record {
  head = 0xdb ∷ big_bytes 4 (length s);
  len = raws.str32 (big_four 0xdb (length s) below);
  text = refl;
}

pub raw_bytes_is : (s : List ℕ) → length s < 2 ^ 32 → Raw (raw_bytes s) s
raw_bytes_is s below = raw_bytes_by s (ltb (length s) (2 ^ 16)) refl below

-- text is no longer than what spells it
no_longer : (b s : List ℕ) → Raw b s → length s ≤ length b
no_longer b s spells = omega (arith, ap length spells.text, length-append spells.head s)

algo_pair : (limit : ℕ) → PairText (compression_layout limit) (raw_text (codes "Algo") ++ number_text 0) (codes "Algo", number 0)
algo_pair limit = record {
  limit = _;
  in_layout = refl;
  key_text = raw_text (codes "Algo");
  value_text = number_text 0;
  key = raw_text_is (codes "Algo") (omega arith);
  value = (number_text_is 0 (omega arith), omega arith);
  text = refl;
}

buf_pair : (limit : ℕ) (packed : List ℕ) → length packed < 2 ^ 32 → length packed ≤ limit
    → PairText (compression_layout limit) (raw_text (codes "Buf") ++ raw_bytes packed) (codes "Buf", raw packed)
buf_pair limit packed below within = record {
  limit = _;
  in_layout = refl;
  key_text = raw_text (codes "Buf");
  value_text = raw_bytes packed;
  key = raw_text_is (codes "Buf") (omega arith);
  value = (raw_bytes_is packed below, within);
  text = refl;
}

grouped : (a b c d e : List ℕ) → a ++ b ++ c ++ d ++ e ≡ a ++ ((b ++ c) ++ ((d ++ e) ++ []))
grouped a b c d e = simp (append_assoc, append-nil)

pub CompressionText-written : (packed : List ℕ) → length packed < 2 ^ 32 → CompressionText (map_bytes packed) packed
unfolding IsDistinct
CompressionText-written packed below =
    let algo = raw_text (codes "Algo") in
    let buf = raw_text (codes "Buf") in
    let value = raw_bytes packed in
    let text = grouped (count_text 2) algo (number_text 0) buf value in
    let limit = length (map_bytes packed) in
    let within : length packed ≤ limit =
    omega (
      arith,
      no_longer value packed (raw_bytes_is packed below),
      length-append (count_text 2 ++ algo ++ number_text 0 ++ buf) value,
    ) in
    record {
      pairs = (codes "Algo", number 0) ∷ (codes "Buf", raw packed) ∷ [];
      text = record {
        count_text = count_text 2;
        pairs_text = (algo ++ number_text 0) ++ ((buf ++ value) ++ []);
        count = count_text_is 2 (omega arith);
        each = (
          algo ++ number_text 0,
          (buf ++ value) ++ [],
          algo_pair limit,
          (buf ++ value, [], buf_pair limit packed below within, refl, refl),
          refl,
        );
        distinct = search arith;
        text = text;
      };
      packed_is = refl;
    }

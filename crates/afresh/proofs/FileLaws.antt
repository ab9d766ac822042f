-- Theorems on what specs/FileLaws defines. They stand here, as a wrong definition there is to be refused and not to be unread.
-- Assumes nothing.
use Rattle.std.specs.Prelude.{◌≡◌, Bool, List, [], ◌∷◌, ◌++◌, ℕ, ◌+◌, ◌-◌, ◌*◌, ◌≤◌, length, replicate}
use Rattle.std.proofs.Common.{ap, ◌∙◌, append-nil, arith, length-append}
use Rattle.std.proofs.lemmas.List.{length-replicate}
use Rattle.word.specs.Word.{bytes_of}
use Rattle.sheet.specs.Area.{area_of}
use Rattle.sheet.specs.Sizes.{length_area}
use Rattle.layout.specs.Layout.{nul, line_feed, file_block, start_size, Trace, trace_size}
use Rattle.layout.specs.Layout.{trace_bytes}
use Rattle.layout.specs.LayoutLaws.{length_file_block}
use Rattle.afresh.specs.FileOf.{sizes, pointers, blocks, file_of, file_size, EachGood}
use Rattle.afresh.specs.FileLaws.{blocks_append, length_blocks, length_pointers, pointers_append, sizes_append}

pub length_file : (high : Bool) (slots : ℕ) (sheet : List ℕ) (ts : List Trace) → length ts ≤ slots → EachGood ts
    → length (file_of high slots sheet ts) ≡ file_size slots sheet ts
unfolding file_of file_size start_size
length_file high slots sheet ts h g =
    let size : ℕ = start_size slots sheet in
    let free : ℕ = 4 * (slots - length ts) in
    let a = length-append (file_block high (4 * slots) (length ts))
    (pointers high size ts ++ (replicate free 0 ++ (area_of high nul line_feed sheet ++ blocks high ts))) in
    let b = length-append (pointers high size ts) (replicate free 0 ++ (area_of high nul line_feed sheet ++ blocks high ts)) in
    let c = length-append (replicate free 0) (area_of high nul line_feed sheet ++ blocks high ts) in
    let d = length-append (area_of high nul line_feed sheet) (blocks high ts) in
    let e = length_file_block high (4 * slots) (length ts) in
    let f = length_pointers high size ts in
    let i = length-replicate {A = ℕ} free 0 in
    let j = length_area high nul line_feed sheet in
    let k = length_blocks high ts g in
    omega arith

pub pointers_more : (high : Bool) (at : ℕ) (ts : List Trace) (x : Trace)
    → pointers high at (ts ++ (x ∷ [])) ≡ pointers high at ts ++ bytes_of 4 high (at + sizes ts)
unfolding pointers
pointers_more high at ts x =
    pointers_append high at ts (x ∷ []) ∙ ap (λ (r : List ℕ). pointers high at ts ++ r) (append-nil (bytes_of 4 high (at + sizes ts)))

pub blocks_more : (high : Bool) (ts : List Trace) (x : Trace) → blocks high (ts ++ (x ∷ [])) ≡ blocks high ts ++ trace_bytes high nul line_feed x
unfolding blocks
blocks_more high ts x = blocks_append high ts (x ∷ []) ∙ ap (λ (r : List ℕ). blocks high ts ++ r) (append-nil (trace_bytes high nul line_feed x))

pub size_append : (slots : ℕ) (sheet : List ℕ) (ts rest : List Trace) → file_size slots sheet (ts ++ rest) ≡ file_size slots sheet ts + sizes rest
unfolding file_size
size_append slots sheet ts rest = let a = sizes_append ts rest in omega arith

pub size_more : (slots : ℕ) (sheet : List ℕ) (ts : List Trace) (x : Trace)
    → file_size slots sheet (ts ++ (x ∷ [])) ≡ file_size slots sheet ts + trace_size nul line_feed x
unfolding sizes
size_more slots sheet ts x = size_append slots sheet ts (x ∷ []) ∙ omega arith

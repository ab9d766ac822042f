-- Theorems on what specs/Spelled defines. They stand here, as a wrong definition there is to be refused and not to be unread.
-- Assumes nothing.
use Rattle.std.specs.Prelude.{◌≡◌, refl, Bool, length, drop, List, [], ◌∷◌, ◌++◌, ℕ, zero, suc, ◌+◌, ◌≤◌, ◌<◌, take}
use Rattle.std.proofs.Common.{ap, ◌∙◌, le_refl, arith, append_assoc, length-append}
use Rattle.std.proofs.Math.Seq.{take-append_seam}
use Rattle.std.proofs.lemmas.Bool.{lt-leb}
use Rattle.word.specs.Tests.{never}
use Rattle.word.specs.Word.{bytes_of}
use Rattle.word.specs.WordLaws.{length_bytes_of, word_among}
use Rattle.refusal.specs.declared.Part.{Part}
use Rattle.text.specs.declared.Manner.TheVariants.{Strict}
use Rattle.note.specs.Note.{LineEnd}
use Rattle.strings.specs.Strings.{offset, on_frame, step_of}
use Rattle.strings.specs.Spelled.{Str, text_of, size_of, Rising, texts, Ends, mark, none, Spells, empty, full}
use Rattle.strings.proofs.Paper.{frame_of_lem, steps, end_frame}
use Rattle.until.specs.declared.Turn.{Turn}
use Rattle.until.specs.Until.{on_turn}
use Rattle.shortcut.specs.Read.{string_read, read_from, read_of}
use Rattle.shortcut.specs.Strings.{offset_read}
use Rattle.shortcut.proofs.Strings.{read_next}
use Rattle.shortcut.specs.Spelled.{list_read}

-- an end mark's two bytes are read
mark_read : (high : Bool) (t rest : List ℕ) → string_read high t (bytes_of 2 high 0 ++ rest) ≡ 2
unfolding offset
mark_read high t rest =
    let l : List ℕ = bytes_of 2 high 0 ++ rest in
    let two : length (bytes_of 2 high 0) ≡ 2 = length_bytes_of 2 high 0 in
    let long : 2 ≤ length l = simp (length-append, two) (omega arith) in
    let w : offset high l ≡ 0 = word_among 2 high 0 [] rest 0 refl (omega arith) in
    offset_read high t l long (rw (w, lt-leb (3 + length t) 0 (omega arith)))

module _ (look : ℕ → List ℕ → Turn) (high : Bool) (t u : List ℕ) (p : Part) (ends : LineEnd u) where
  from_list : (ss : List Str) (end prev : List ℕ) (m j at : ℕ) → Ends Strict high end → Rising Strict t u prev ss → length (texts high t ss end) ≤ m
      → read_from look m high t u p j prev (texts high t ss end) at ≡ list_read look t j ss
  unfolding texts list_read read_from step_of on_frame
  from_list [] end prev zero j at (mark rest) g h =
      absurd (let k = length-append (bytes_of 2 high 0) rest in let n = length_bytes_of 2 high 0 in omega arith)
  from_list [] end prev m j at (none e) g h = never e
  from_list [] end prev (suc m) j at (mark rest) g h = rw (end_frame Strict high t end (mark rest), mark_read high t rest)
  from_list (s ∷ ss) end prev zero j at x g h = absurd (let k = (frame_of_lem g.0 high (texts high t ss end)).fit in omega arith)
  from_list (s ∷ ss) end prev (suc m) j at x g h =
      let r : List ℕ = texts high t ss end in
      let f = frame_of_lem g.0 high r in
      let l : List ℕ = bytes_of 2 high (size_of t s) ++ (text_of s ++ (t ++ r)) in
      let own : take (length s.key) (drop 2 l) ≡ s.key =
      rw (f.tail, append_assoc s.key (s.gap ++ s.value) (t ++ r)) (take-append_seam s.key ((s.gap ++ s.value) ++ (t ++ r))) in
      read_next high t u p look m j prev l at (size_of t s) (length s.key) (steps g.0 high r prev p at ends g.1)
      ∙ rw (f.next, own)
      (ap (λ (n : ℕ). size_of t s + on_turn (look j s.key) 0 0 n)
      (from_list ss end s.key m (j + 1) (at + size_of t s) x g.2 (omega (arith, f.fit))))

  -- of an area that spells a list and has a byte
  pub read_listed : {ss : List Str} {l : List ℕ} (at : ℕ) → Spells Strict high t u ss l → 0 < length l → read_of look high t u p l at ≡ list_read look t 0 ss
  unfolding read_of
  read_listed at empty h = absurd (omega arith)
  read_listed at (full {ss} {end} x g) h = from_list ss end [] (length (texts high t ss end)) 0 at x g (le_refl (length (texts high t ss end)))

-- A part of an accepted file whose bytes spell a list of strings is answered by that list: how many they are, the i-th,
-- whether a keyword is there, its value, and the value as a number, a double and a location (document 01, "Strings",
-- "Numbers in values").
-- Assumes nothing.
use Rattle.std.specs.Prelude.{◌≡◌, List, ℕ, ◌≤◌, ◌<◌, ℤ, length, take, Ok, Some, None, true, false}
use Rattle.head_limits.specs.declared.Purpose.TheVariants.{Read}
use Rattle.text.specs.declared.Manner.{Manner}
use Rattle.text.specs.Manner.{named}
use Rattle.refusal.specs.Rows.{pick}
use Rattle.strings.specs.declared.Place.{Place}
use Rattle.strings.specs.Spelled.{Str, nth_str, value_of_key, has_key}
use Rattle.decimal.specs.Number.{number_in}
use Rattle.double.specs.Double.{double_of}
use Rattle.location.specs.Location.{location_of}
use Rattle.image.specs.Image.{check_of}
use Rattle.reader.specs.Questions.{count_answer, nth_answer, find_answer, keyword_answer, value_answer, number_answer, double_answer}
use Rattle.reader.specs.Questions.{location_answer}
use Rattle.reader.specs.Listed.{Lists, IsString, listed_count, listed_nth, listed_past, listed_first, listed_keyword, listed_value}
use Rattle.reader.specs.Listed.{listed_number, listed_double, listed_location}
use Rattle.refusal.specs.Verdicts.{accepted}

-- the answers on part z of the file in the first n bytes of xs, in the manner of reading `how`
pub record AnswersBy (how : Manner) (xs : List ℕ) (n : ℕ) (z : ℤ) (ss : List Str) : Type 0 where
  pub many : count_answer how xs n z ≡ Ok (length ss)
  pub nth : (i : ℕ) → i < length ss → (s : Place) × (nth_answer how xs n z i ≡ Ok (Some s)) × IsString (take n xs) s (nth_str ss i)
  pub past : (i : ℕ) → length ss ≤ i → nth_answer how xs n z i ≡ Ok None
  -- the string of a keyword is the first that has it (document 02, §1)
  pub first : (key : List ℕ) (i : ℕ) → i < length ss → named how (nth_str ss i).key ≡ key → ((j : ℕ) → j < i → named how (nth_str ss j).key ≡ key → ⊥)
      → find_answer how xs n z key ≡ nth_answer how xs n z i
  pub keyword : (key : List ℕ) → keyword_answer how xs n z key ≡ pick (has_key how ss key) (Ok true) (Ok false)
  pub value : (key : List ℕ) → value_answer how xs n z key ≡ value_of_key how ss key
  pub number : (key : List ℕ) → number_answer how xs n z key ≡ number_in (value_of_key how ss key)
  pub double : (key : List ℕ) → double_answer how xs n z key ≡ double_of (value_of_key how ss key)
  pub location : (key : List ℕ) → location_answer how xs n z key ≡ location_of (value_of_key how ss key)

pub answered : (how : Manner) (xs : List ℕ) (n : ℕ) (z : ℤ) (ss : List Str) → check_of how Read xs n ≡ accepted → Lists how (take n xs) z ss → AnswersBy how xs n z ss
answered how xs n z ss ok l =
    record {
      many = listed_count how xs n z ss ok l;
      nth = listed_nth how xs n z ss ok l;
      past = listed_past how xs n z ss ok l;
      first = listed_first how xs n z ss ok l;
      keyword = listed_keyword how xs n z ss ok l;
      value = listed_value how xs n z ss ok l;
      number = listed_number how xs n z ss ok l;
      double = listed_double how xs n z ss ok l;
      location = listed_location how xs n z ss ok l;
    }

-- Answers on strings and their values as they cross to another language: number, part and place as face/Face has them,
-- and behind them the value, which is 0 after a refusal; and a number as it comes back. Fields bear the names that
-- include/seg2.h gives them («..»: the `_` in a name takes no argument).
-- Assumes nothing.
use Rattle.std.specs.Prelude.{ℕ, ◌-◌, ℤ, pos, negsuc, ltb, Result, Ok, Err, Option, Some, None, Bool, true, false, Float}
use Rattle.location.specs.Location.{absent}
use Rattle.decimal_parts.specs.declared.Decimal.{Decimal}
use Rattle.face.specs.Face.{flag, as_row, as_part}
use Rattle.face_values.specs.declared.Seg2String.{Seg2String}
use Rattle.face_values.specs.declared.Seg2Keyword.{Seg2Keyword}
use Rattle.face_values.specs.declared.Seg2Value.{Seg2Value}
use Rattle.face_values.specs.declared.Seg2Number.{Seg2Number}
use Rattle.face_values.specs.declared.Seg2Double.{Seg2Double}
use Rattle.face_values.specs.declared.Seg2Location.{Seg2Location}
use Rattle.refusal.specs.declared.Refusal.{Refusal}
use Rattle.location.specs.declared.Coordinates.{Coordinates}
use Rattle.strings.specs.declared.Place.{Place}

-- starts and lengths in the caller's own buffer
unfoldable pub as_string : Result (Option Place) Refusal → Seg2String
as_string (Ok (Some s)) =
    record {
      number = 0;
      part = negsuc 0;
      place = 0;
      found = 1;
      key_start = s.key;
      key_length = s.gap - s.key;
      value_start = s.value;
      value_length = s.end - s.value;
    }
as_string (Ok None) =
    record {
      number = 0;
      part = negsuc 0;
      place = 0;
      found = 0;
      key_start = 0;
      key_length = 0;
      value_start = 0;
      value_length = 0;
    }
as_string (Err r) =
    record {
      number = as_row r;
      part = as_part r;
      place = r.place;
      found = 0;
      key_start = 0;
      key_length = 0;
      value_start = 0;
      value_length = 0;
    }

unfoldable pub as_keyword : Result Bool Refusal → Seg2Keyword
as_keyword (Ok true) = record { number = 0; part = negsuc 0; place = 0; found = 1 }
as_keyword (Ok false) = record { number = 0; part = negsuc 0; place = 0; found = 0 }
as_keyword (Err r) = record { number = as_row r; part = as_part r; place = r.place; found = 0 }

-- "for a no or a refusal the empty part at the start of the lent buffer"
unfoldable pub as_value : Result (Option Place) Refusal → Seg2Value
as_value (Ok (Some s)) = record { number = 0; part = negsuc 0; place = 0; value_start = s.value; value_length = s.end - s.value }
as_value (Ok None) = record { number = 0; part = negsuc 0; place = 0; value_start = 0; value_length = 0 }
as_value (Err r) = record { number = as_row r; part = as_part r; place = r.place; value_start = 0; value_length = 0 }

unfoldable pub as_number : Result Decimal Refusal → Seg2Number
as_number (Ok n) =
    record {
      number = 0;
      part = negsuc 0;
      place = 0;
      minus = flag n.minus;
      power = n.power;
      coefficient = n.coefficient;
      decimals = n.decimals;
    }
as_number (Err r) = record { number = as_row r; part = as_part r; place = r.place; minus = 0; power = pos 0; coefficient = 0; decimals = 0 }

unfoldable pub as_double : Result Float Refusal → Seg2Double
as_double (Ok x) = record { number = 0; part = negsuc 0; place = 0; value = x }
as_double (Err r) = record { number = as_row r; part = as_part r; place = r.place; value = absent }

unfoldable pub as_location : Result Coordinates Refusal → Seg2Location
as_location (Ok c) =
    record {
      number = 0;
      part = negsuc 0;
      place = 0;
      count = c.count;
      x = c.x;
      y = c.y;
      z = c.z;
      x_decimals = c.x_decimals;
      y_decimals = c.y_decimals;
      z_decimals = c.z_decimals;
    }
as_location (Err r) =
    record {
      number = as_row r;
      part = as_part r;
      place = r.place;
      count = 0;
      x = absent;
      y = absent;
      z = absent;
      x_decimals = 0;
      y_decimals = 0;
      z_decimals = 0;
    }

-- a number as it comes back: minus is 0 or not
abbrev pub as_given : ℕ → ℕ → ℤ → ℕ → Decimal
as_given minus coefficient power decimals = record { minus = ltb 0 minus; coefficient = coefficient; power = power; decimals = decimals }

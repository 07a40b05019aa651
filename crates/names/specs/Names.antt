-- What a name is.
use Rattle.std.specs.Prelude.{ℕ, ◌-◌, Bool, ◌||◌, ◌&&◌, nat_le, ◌==◌, List, ◌++◌, length, take, replicate}
use Rattle.std.specs.List.{list_all}
use Rattle.names.specs.declared.name.Name.TheInside.{Inside}

-- an ASCII letter, digit, `-` or `_`
abbrev pub is_name_byte : ℕ → Bool
is_name_byte b =
    (nat_le 48 b && nat_le b 57) || (nat_le 65 b && nat_le b 90) || (nat_le 97 b && nat_le b 122) || (b == 45) || (b == 95)

-- 1 to 16 such bytes
abbrev pub is_name : List ℕ → Bool
is_name bytes = nat_le 1 (length bytes) && nat_le (length bytes) 16 && list_all is_name_byte bytes

-- the bytes that a name's fields hold
abbrev pub name_bytes : Inside → List ℕ
name_bytes a = take a.len a.bytes

-- the fields that hold these bytes
abbrev pub name_fields : List ℕ → Inside
name_fields bytes = record { len = length bytes; bytes = bytes ++ replicate (16 - length bytes) 0 }

-- The lines of the player's text, as bytes (ASCII).
-- Assumes nothing.
use Rattle.std.specs.Prelude.{ℕ, zero, suc, ◌+◌, ◌/◌, ◌%◌, Bool, cond, List, [], ◌∷◌, ◌++◌, ltb}
use Rattle.instructions.specs.Added.{is_new}
use Rattle.registers.specs.declared.Beside.{Beside}
use Rattle.registers.specs.declared.ModifyRead.{ModifyRead}
use Rattle.registers.specs.declared.ModifyRead.TheVariants.{Off, On}
use Rattle.registers.specs.declared.Registers.{Registers}

-- the character of a digit below 16: 0 to 9, a to f
unfoldable pub digit : ℕ → ℕ
digit d = cond (ltb d 10) (48 + d) (87 + d)

-- a byte as two lower-case hex digits
unfoldable pub hex : ℕ → List ℕ
hex b = digit (b / 16) ∷ digit (b % 16) ∷ []

-- the decimal digits of n, without leading zeros, where there are at most `most`
unfoldable pub decimal_up_to : ℕ → ℕ → List ℕ
decimal_up_to zero n = []
decimal_up_to (suc most) n = cond (ltb n 10) [] (decimal_up_to most (n / 10)) ++ (digit (n % 10) ∷ [])

-- the decimal digits of a number of 64 bits
unfoldable pub decimal : ℕ → List ℕ
decimal n = decimal_up_to 20 n

-- a space and a number
unfoldable pub field : ℕ → List ℕ
field n = 32 ∷ decimal n

abbrev pub newline : List ℕ
newline = 10 ∷ []

-- 0 or 1
abbrev pub flag : Bool → ℕ
flag b = cond b 1 0

-- `r` index byte: a status read
unfoldable pub read_line : ℕ → ℕ → List ℕ
read_line i b = 114 ∷ (field i ++ (32 ∷ (hex b ++ newline)))

-- f for a fresh byte, s for a stale one
abbrev pub mark_letter : Bool → ℕ
mark_letter fresh = cond fresh 102 115

-- `r` index byte mark: a data read
unfoldable pub marked_line : ℕ → ℕ → Bool → List ℕ
marked_line i b fresh = 114 ∷ (field i ++ (32 ∷ (hex b ++ (32 ∷ mark_letter fresh ∷ newline))))

-- `x` index refusal
unfoldable pub refusal_line : ℕ → ℕ → List ℕ
refusal_line i n = 120 ∷ (field i ++ (field n ++ newline))

-- `bad` number
unfoldable pub bad_line : ℕ → List ℕ
bad_line n = 98 ∷ 97 ∷ 100 ∷ (field n ++ newline)

-- 1 while modify-read is on
abbrev pub modify_flag : ModifyRead → ℕ
modify_flag Off = 0
modify_flag (On c) = 1

-- in the new command set the end line has initial COM0, duty and inversion too
abbrev pub three_fields : Beside → List ℕ
three_fields b = field b.com0 ++ (field b.duty ++ (field b.inversion ++ newline))

abbrev pub line_end : Beside → List ℕ
line_end b = cond (is_new b.set) (three_fields b) newline

-- `end` with page, column, start line, SHL, ADC, reverse, entire, on, modify-read and contrast
unfoldable pub end_line : Registers → List ℕ
end_line r =
    101 ∷ 110 ∷ 100
    ∷ (field r.page ++ (field r.column.0 ++ (field r.start_line ++ (field (flag r.shl)
    ++ (field (flag r.adc) ++ (field (flag r.reverse) ++ (field (flag r.entire) ++ (field (flag r.on)
    ++ (field (modify_flag r.modify_read) ++ (field r.contrast ++ line_end r.beside))))))))))

-- `update` length
unfoldable pub update_line : ℕ → List ℕ
update_line n = 117 ∷ 112 ∷ 100 ∷ 97 ∷ 116 ∷ 101 ∷ (field n ++ newline)

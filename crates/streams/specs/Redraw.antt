-- The redraw: E3, AC, 81, contrast, then all nine pages as one stretch each, data as in the update.
-- Assumes nothing.
use Rattle.std.specs.Prelude.{ℕ, zero, suc, List, [], ◌∷◌, ◌++◌}
use Rattle.std.proofs.Math.Option.{none}
use Rattle.controller.specs.Run.{BusCycle}
use Rattle.controller.specs.Chip.{nop_cycle, off_cycle, ask_cycle, contrast_cycle}
use Rattle.streams.specs.Stretch.{Stretch, emit}
use Rattle.streams.specs.Update.{wanted_bytes}

-- page p as one stretch
unfoldable pub whole_page : ℕ → List ℕ → ℕ → Stretch
whole_page W wanted p = record { page = p; start = 0; content = wanted_bytes W wanted p 0 W }

-- the n pages from p on
unfoldable pub whole_pages : ℕ → List ℕ → ℕ → ℕ → List Stretch
whole_pages W wanted p zero = []
whole_pages W wanted p (suc n) = whole_page W wanted p ∷ whole_pages W wanted (suc p) n

unfoldable pub redraw : ℕ → List ℕ → List Stretch
redraw W wanted = whole_pages W wanted 0 9

abbrev pub opening : ℕ → List BusCycle
opening contrast = nop_cycle ∷ off_cycle ∷ ask_cycle ∷ contrast_cycle contrast ∷ []

unfoldable pub redraw_stream : ℕ → List ℕ → ℕ → List BusCycle
redraw_stream W wanted contrast = opening contrast ++ emit none (redraw W wanted)

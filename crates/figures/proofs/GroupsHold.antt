-- Order 10's figures hold: each is computed from the definitions that the promises cite. A group is computed once, and the orders of
-- groups from that.
-- Assumes nothing.
use Prim.Native.Nat.{ℕ}
use mathlib.Core.Path.{◌≡◌, refl, ap, ◌∙◌}
use mathlib.Core.List.{List, [], ◌∷◌, ◌++◌, append-nil}
use Rattle.instructions.specs.Read.{class_of, room_in, read_by, read_first}
use Rattle.registers.specs.Beside.{outside_beside}
use Rattle.registers.specs.Registers.{outside}
use Rattle.controller.specs.Memory.{cell_of, is_cell, stored, advanced}
use Rattle.controller.specs.Run.{BusCycle}
use Rattle.controller.specs.Cycle.{written, carried, kept, refusal, answer, memory_after}
use Rattle.streams.specs.Picture.{shown, differs}
use Rattle.streams.specs.Stretch.{on_it, address, emit_by}
use Rattle.streams.specs.Update.{joins, join, join_if, runs, wanted_bytes, stretch_of, page_work, work_from, update, update_stream}
use Rattle.streams.specs.Shape.{group}
use Rattle.streams.specs.Order.{times, rising, groups_in}
use Rattle.streams.proofs.AnyOrder.{in_next}
use Rattle.figures.specs.Figures.{zeros}
use Rattle.figures.specs.Groups.{three, group_of, groups, page_0, page_3, page_8, Groups}

-- ---- the groups

first : group_of 0 ≡ page_0
unfolding cell_of shown differs on_it address emit_by joins join join_if runs wanted_bytes stretch_of page_work group
first = refl

middle : group_of 3 ≡ page_3
unfolding cell_of shown differs on_it address emit_by joins join join_if runs wanted_bytes stretch_of page_work group
middle = refl

last : group_of 8 ≡ page_8
unfolding cell_of shown differs on_it address emit_by joins join join_if runs wanted_bytes stretch_of page_work group
last = refl

equal_page : group_of 5 ≡ []
unfolding cell_of shown differs on_it address emit_by joins join join_if runs wanted_bytes stretch_of page_work group
equal_page = refl

-- ---- three of them, in an order

in_order : (a b c : ℕ) {x y z : List BusCycle} → group_of a ≡ x → group_of b ≡ y → group_of c ≡ z → groups (a ∷ b ∷ c ∷ []) ≡ x ++ (y ++ z)
unfolding groups_in
in_order a b c e f g = rw (append-nil (group_of c), e, f, g)

between : groups (3 ∷ 8 ∷ 0 ∷ []) ≡ page_3 ++ (page_8 ++ page_0)
between = in_order 3 8 0 middle last first

-- ---- all of them

pub groups_hold : Groups
unfolding class_of room_in read_by read_first outside_beside outside cell_of is_cell stored advanced written carried kept refusal answer memory_after shown differs on_it address emit_by joins join join_if runs wanted_bytes stretch_of page_work work_from update update_stream group groups_in times rising
groups_hold = record {
  first = first;
  middle = middle;
  last = last;
  equal_page = equal_page;
  other_bits = refl;
  update = refl;
  falling = in_order 8 3 0 last middle first;
  icons_between = between;
  with_page_5 = in_next 132 zeros three 5 (3 ∷ 8 ∷ 0 ∷ []) ∙ ap (λ l. l ++ groups (3 ∷ 8 ∷ 0 ∷ [])) equal_page ∙ between;
  rising_memory = refl;
  falling_memory = refl;
  between_memory = refl;
  rising_page = refl;
  rising_column = refl;
  falling_page = refl;
  falling_column = refl;
  once = refl;
  twice = refl;
  never = refl;
  nine = refl;
}

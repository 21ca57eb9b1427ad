-- Whole texts at the limits of document 01 and past them, by computation: functions of a task, points of a function, and points of all functions.
use Rattle.std.specs.Prelude.{ℕ, suc, ◌+◌, ◌*◌, ◌≡◌, refl, List, [], ◌∷◌, ◌++◌, replicate}
use Prim.Native.String.{String}
use Rattle.model.specs.Basic.{joined, up_to}
use Rattle.model.specs.Text.{bytes}
use Rattle.model.specs.Sheet.{decimal}
use Rattle.model.specs.Services.{check_number}
use Rattle.model.specs.Opened.{opened}
use Rattle.model.specs.Examples.{lines}

-- a stack line and functions
abbrev with_stack : List ℕ → List ℕ
with_stack functions = lines ("(stack 1)" ∷ []) ++ functions

-- n functions, each of which calls the next, and a last one
abbrev calling : ℕ → List ℕ
calling f =
    lines ("(func 0" ∷ []) ++ (bytes "  (call " ++ (decimal (suc f) ++ lines (")" ∷ "  (ensure 0)" ∷ "  (return)" ∷ ")" ∷ [])))

abbrev chained : ℕ → List ℕ
chained n = with_stack (joined calling (up_to n) ++ lines ("(func 0" ∷ "  (return)" ∷ ")" ∷ []))

-- a function of these points, then n stores, and a return
abbrev storing : List String → ℕ → List ℕ
storing points n = lines ("(func 1" ∷ (points ++ (replicate n "  (store 0)" ++ ("  (return)" ∷ ")" ∷ []))))

-- the first of four functions, which calls the others
abbrev calls_three : List String
calls_three = "  (call 1)" ∷ "  (ensure 1)" ∷ "  (call 2)" ∷ "  (ensure 1)" ∷ "  (call 3)" ∷ "  (ensure 1)" ∷ []

pub functions : (check_number (chained 63) ≡ 0) × (check_number (chained 64) ≡ 6 * 65536 + 322)
unfolding opened lines
functions = (refl, refl)

pub points :
    (check_number (with_stack (storing [] 255)) ≡ 0)
    × (check_number (with_stack (storing [] 256)) ≡ 6 * 65536 + 259)
unfolding opened lines
points = (refl, refl)

-- three functions of 256 points and a fourth of 255 or 256, and a fifth
pub all :
    (check_number (with_stack (storing calls_three 249 ++ (storing [] 255 ++ (storing [] 255 ++ storing [] 255)))) ≡ 0)
    × (check_number (with_stack (storing calls_three 249 ++ (storing [] 255 ++ (storing [] 255 ++ (storing [] 255 ++ storing [] 0)))))
    ≡ 6 * 65536 + 1035)
unfolding opened lines
all = (refl, refl)

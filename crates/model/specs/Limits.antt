-- The limits of a task text, and the lengths that bound the buffers. The code has each as a constant of Limits.
use Rattle.std.specs.Prelude.{ℕ}

-- cache blocks S
abbrev pub most_stack : ℕ
most_stack = 64

abbrev pub most_funcs : ℕ
most_funcs = 64

-- points of one function, and of all functions together
abbrev pub most_points : ℕ
most_points = 256

abbrev pub most_in_all : ℕ
most_in_all = 1024

-- bytes of a text
abbrev pub most_bytes : ℕ
most_bytes = 32768

-- numbers of the working space that a service uses
abbrev pub work_length : ℕ
work_length = 16384

-- numbers of an event list, two for each event
abbrev pub most_event_numbers : ℕ
most_event_numbers = 131072

-- the price of a move: its start, and each of its blocks
abbrev pub most_start : ℕ
most_start = 255

abbrev pub most_each : ℕ
most_each = 255

-- points in the list of the dearest
abbrev pub most_dearest : ℕ
most_dearest = 10

-- The bytes of a task that a service writes, at a price, and what such a service returns and leaves. lines: the bytes by a sheet.
use Rattle.std.specs.Prelude.{ℕ, List, length}
use Rattle.model.specs.Limits.{work_length}
use Rattle.model.specs.Task.{Task}
use Rattle.model.specs.Sheet.{Sheet, priced_sheet}
use Rattle.model.specs.Refusal.{priced_rows}
use Rattle.model.specs.Services.{AfterWrite, written_of}
use Rattle.prices.specs.declared.Price.{Price}
use Rattle.prices.specs.Prices.{price_of}

abbrev pub print_of : (Price → Task → Sheet → List ℕ) → Price → Task → List ℕ
print_of lines price t = lines price t (priced_sheet (price_of price) t)

abbrev pub wrote_of : (Price → Task → Sheet → List ℕ) → List ℕ → ℕ → ℕ → List ℕ → List ℕ → AfterWrite
wrote_of lines text start each work output =
    written_of (priced_rows work_length (length work) start each) (print_of lines (record { start = start; each = each })) text work output

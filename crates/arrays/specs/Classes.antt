-- The classes of records that are read. Assumes nothing.
use Rattle.std.specs.Prelude.{ℕ}
use Rattle.arrays.specs.declared.ReadingClass.{ReadingClass}
use Rattle.arrays.specs.declared.ReadingClass.TheVariants.{Small, Large, Vast}

-- how many vertices and edges a class is for
unfoldable pub vertices_to_read : ReadingClass → ℕ
vertices_to_read Small = 512
vertices_to_read Large = 2048
vertices_to_read Vast = 32768

unfoldable pub edges_to_read : ReadingClass → ℕ
edges_to_read Small = 512
edges_to_read Large = 4096
edges_to_read Vast = 65536

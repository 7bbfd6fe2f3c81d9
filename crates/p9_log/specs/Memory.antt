-- What is in a device in memory.
use Rattle.std.specs.Prelude.{ℕ, List}
use Rattle.p9_log.specs.declared.memory.MemoryDevice.{MemoryDevice}

abbrev pub memory_bytes : {A : Type 0} → MemoryDevice A → List ℕ
memory_bytes device = device.bytes.items

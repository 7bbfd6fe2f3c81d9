-- What is seen of an allocator that refuses a request.
use Rattle.p9_testing.specs.declared.allocator.Refusing.{Refusing}

-- The allocator whose memory it hands out.
abbrev pub inner_of : {B : Type 0} → Refusing B → B
inner_of refusing = refusing.inner

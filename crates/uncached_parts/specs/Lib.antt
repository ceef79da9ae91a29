-- What a fast step outside the windows promises.
pub mod UncachedStep

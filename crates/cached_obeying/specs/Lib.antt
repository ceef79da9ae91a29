-- What a fetch with windows promises.
pub mod CachedObeying

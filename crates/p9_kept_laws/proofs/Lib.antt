mod Alike
mod Gaps
mod Lives
